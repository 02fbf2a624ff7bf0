-- The definitions of `rebalance` that crates above name.
pub use Rattle.group_engine.specs.rebalance.Cursors
pub use Rattle.group_engine.specs.rebalance.Moves
pub mod declared
