-- What crates above cite of the proofs of `group_engine`.
pub use Rattle.group_engine.proofs.Beside
pub use Rattle.group_engine.proofs.Bytes
pub use Rattle.group_engine.proofs.Covering
pub use Rattle.group_engine.proofs.Elsewhere
pub use Rattle.group_engine.proofs.Slots
pub use Rattle.group_engine.proofs.Spared
