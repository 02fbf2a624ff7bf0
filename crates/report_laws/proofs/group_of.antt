-- What crates above cite of the proofs of `group_of`.
pub use Rattle.group_of.proofs.Describes
pub use Rattle.group_of.proofs.EditedGroups
pub use Rattle.group_of.proofs.HeadedFiles
pub use Rattle.group_of.proofs.Leading
