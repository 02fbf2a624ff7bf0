-- What crates above cite of the proofs of `group_engine`.
pub use Rattle.group_engine.proofs.Causes
pub use Rattle.group_engine.proofs.Elsewhere
pub use Rattle.group_engine.proofs.Slots
pub use Rattle.group_engine.proofs.Standings
