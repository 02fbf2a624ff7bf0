-- What crates above cite of the proofs of `group_engine`.
pub use Rattle.group_pieces.proofs.group_engine.Causes
pub use Rattle.group_pieces.proofs.group_engine.Elsewhere
pub use Rattle.group_pieces.proofs.group_engine.Endings
pub use Rattle.group_pieces.proofs.group_engine.Members
pub use Rattle.group_pieces.proofs.group_engine.NextRecords
pub use Rattle.group_pieces.proofs.group_engine.Standings
