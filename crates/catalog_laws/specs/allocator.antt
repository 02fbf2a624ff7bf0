-- The definitions of `allocator` that crates above name.
pub use Rattle.catalog.specs.allocator.UnitMaps
