-- What crates above cite of the proofs of `group_of`.
pub use Rattle.file_extents.proofs.group_of.Describes
pub use Rattle.file_extents.proofs.group_of.Leading
pub use Rattle.file_extents.proofs.group_of.Refusals
