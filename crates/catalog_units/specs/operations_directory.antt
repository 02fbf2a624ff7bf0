-- The definitions of `operations_directory` that crates above name.
pub use Rattle.catalog_tables.specs.operations_directory.Operations
pub use Rattle.catalog_tables.specs.operations_directory.Readings
