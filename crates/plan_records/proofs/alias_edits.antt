-- What crates above cite of the proofs of `alias_edits`.
pub use Rattle.alias_edits.proofs.Allowed
pub use Rattle.alias_edits.proofs.Done
pub use Rattle.alias_edits.proofs.Growing
pub use Rattle.alias_edits.proofs.NewNodes
