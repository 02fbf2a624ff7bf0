-- What crates above cite of the proofs of `group_of`.
pub use Rattle.group_pieces.proofs.group_of.Describes
pub use Rattle.group_pieces.proofs.group_of.Leading
pub use Rattle.group_pieces.proofs.group_of.Refusals
