-- The types of `rebalance` that crates above name.
pub use Rattle.rebalance.specs.declared.moves
