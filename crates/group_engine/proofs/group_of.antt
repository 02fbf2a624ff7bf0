-- What crates above cite of the proofs of `group_of`.
pub use Rattle.group_of.proofs.Describes
pub use Rattle.group_of.proofs.EditedGroups
pub use Rattle.group_of.proofs.Extents
pub use Rattle.group_of.proofs.Leading
pub use Rattle.group_of.proofs.Places
pub use Rattle.group_of.proofs.Refusals
pub use Rattle.group_of.proofs.Says
