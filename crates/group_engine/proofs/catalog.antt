-- What crates above cite of the proofs of `catalog`.
pub use Rattle.rebalance.proofs.catalog.MarkPlans
pub use Rattle.rebalance.proofs.catalog.MovePlans
pub use Rattle.rebalance.proofs.catalog.NumberedEntries
