-- The types of `rebalance` that crates above name.
pub use Rattle.record_laws.specs.rebalance.declared.moves
