-- The definitions of `catalog_tables` that crates above name.
pub use Rattle.file_extents.specs.catalog_tables.Changing
pub use Rattle.file_extents.specs.catalog_tables.Tables
