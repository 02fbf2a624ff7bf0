-- What crates above cite of the proofs of `group_pieces`.
pub use Rattle.file_extents.proofs.group_pieces.Keeping
