-- The definitions of `allocator` that crates above name.
pub use Rattle.catalog_tables.specs.allocator.UnitMaps
