-- The types of `rebalance` that crates above name.
pub use Rattle.file_extents.specs.rebalance.declared.moves
