-- The definitions of `catalog_tables` that crates above name.
pub use Rattle.catalog_laws.specs.catalog_tables.Changing
pub use Rattle.catalog_laws.specs.catalog_tables.Rules
pub use Rattle.catalog_laws.specs.catalog_tables.Tables
