-- The definitions of `operations_directory` that crates above name.
pub use Rattle.catalog.specs.operations_directory.Operations
