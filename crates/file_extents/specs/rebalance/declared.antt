-- The types of `rebalance` that crates above name.
pub use Rattle.group_pieces.specs.rebalance.declared.moves
