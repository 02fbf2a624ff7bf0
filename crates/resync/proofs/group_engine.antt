-- What crates above cite of the proofs of `group_engine`.
pub use Rattle.file_extents.proofs.group_engine.Causes
pub use Rattle.file_extents.proofs.group_engine.Elsewhere
pub use Rattle.file_extents.proofs.group_engine.Endings
pub use Rattle.file_extents.proofs.group_engine.Members
