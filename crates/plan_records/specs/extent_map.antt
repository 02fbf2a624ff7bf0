-- The definitions of `extent_map` that crates above name.
pub use Rattle.catalog_units.specs.extent_map.Changing
pub use Rattle.catalog_units.specs.extent_map.Extents
pub use Rattle.catalog_units.specs.extent_map.Faults
