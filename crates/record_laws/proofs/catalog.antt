-- What crates above cite of the proofs of `catalog`.
pub use Rattle.group_engine.proofs.catalog.MarkPlans
pub use Rattle.group_engine.proofs.catalog.MovePlans
pub use Rattle.group_engine.proofs.catalog.NumberedEntries
