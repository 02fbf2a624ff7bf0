-- The definitions of `allocator` that crates above name.
pub use Rattle.catalog_units.specs.allocator.UnitMaps
