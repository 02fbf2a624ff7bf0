-- What crates above cite of the proofs of `group_recovery`.
pub use Rattle.mounted_groups.proofs.group_recovery.Searches
pub use Rattle.mounted_groups.proofs.group_recovery.Told
