-- The definitions of `rebalance` that crates above name.
pub use Rattle.file_extents.specs.rebalance.Cursors
pub use Rattle.file_extents.specs.rebalance.Moves
pub mod declared
