-- The definitions of `extent_map` that crates above name.
pub use Rattle.catalog_laws.specs.extent_map.Extents
