-- The definitions of `operations_directory` that crates above name.
pub use Rattle.operations_directory.specs.Operations
pub use Rattle.operations_directory.specs.Readings
