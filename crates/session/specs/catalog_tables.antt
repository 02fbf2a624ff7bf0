-- The definitions of `catalog_tables` that crates above name.
pub use Rattle.group_contents.specs.catalog_tables.Changing
pub use Rattle.group_contents.specs.catalog_tables.Tables
