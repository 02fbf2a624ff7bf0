-- The definitions of `rebalance` that crates above name.
pub use Rattle.record_laws.specs.rebalance.Cursors
pub use Rattle.record_laws.specs.rebalance.Moves
pub mod declared
