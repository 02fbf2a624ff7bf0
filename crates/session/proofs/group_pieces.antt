-- What crates above cite of the proofs of `group_pieces`.
pub use Rattle.group_contents.proofs.group_pieces.Keeping
