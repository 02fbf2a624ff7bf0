-- What crates above cite of the proofs of `group_of`.
pub use Rattle.group_engine.proofs.group_of.EditedGroups
pub use Rattle.group_engine.proofs.group_of.Leading
pub use Rattle.group_engine.proofs.group_of.Refusals
