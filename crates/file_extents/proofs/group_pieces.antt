-- What crates above cite of the proofs of `group_pieces`.
pub use Rattle.group_pieces.proofs.Keeping
