-- The types of `catalog_tables` that crates above name.
pub use Rattle.catalog.specs.catalog_tables.declared.error
