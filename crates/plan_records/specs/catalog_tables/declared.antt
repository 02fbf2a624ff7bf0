-- The types of `catalog_tables` that crates above name.
pub use Rattle.catalog_units.specs.catalog_tables.declared.error
