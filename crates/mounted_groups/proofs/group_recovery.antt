-- What crates above cite of the proofs of `group_recovery`.
pub use Rattle.group_recovery.proofs.Fronts
pub use Rattle.group_recovery.proofs.NextRecords
pub use Rattle.group_recovery.proofs.Searches
pub use Rattle.group_recovery.proofs.Surveyed
pub use Rattle.group_recovery.proofs.Told
