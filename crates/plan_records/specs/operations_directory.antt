-- The definitions of `operations_directory` that crates above name.
pub use Rattle.catalog_units.specs.operations_directory.Operations
pub use Rattle.catalog_units.specs.operations_directory.Readings
