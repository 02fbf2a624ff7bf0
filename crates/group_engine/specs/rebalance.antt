-- The definitions of `rebalance` that crates above name.
pub use Rattle.rebalance.specs.Cursors
pub use Rattle.rebalance.specs.Moves
pub mod declared
