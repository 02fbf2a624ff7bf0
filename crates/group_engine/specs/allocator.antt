-- The definitions of `allocator` that crates above name.
pub use Rattle.rebalance.specs.allocator.UnitMaps
