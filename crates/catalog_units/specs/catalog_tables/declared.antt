-- The types of `catalog_tables` that crates above name.
pub use Rattle.catalog_tables.specs.declared.error
