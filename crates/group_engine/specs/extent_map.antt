-- The definitions of `extent_map` that crates above name.
pub use Rattle.rebalance.specs.extent_map.Extents
