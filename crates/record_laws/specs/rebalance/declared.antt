-- The types of `rebalance` that crates above name.
pub use Rattle.group_engine.specs.rebalance.declared.moves
