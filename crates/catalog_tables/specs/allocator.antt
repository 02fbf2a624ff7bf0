-- The definitions of `allocator` that crates above name.
pub use Rattle.page_map.specs.allocator.UnitMaps
