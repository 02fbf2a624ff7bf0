-- What crates above cite of the proofs of `group_engine`.
pub use Rattle.group_contents.proofs.group_engine.Causes
pub use Rattle.group_contents.proofs.group_engine.Elsewhere
