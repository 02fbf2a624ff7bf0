-- The definitions of `rebalance` that crates above name.
pub use Rattle.group_pieces.specs.rebalance.Cursors
pub use Rattle.group_pieces.specs.rebalance.Moves
pub mod declared
