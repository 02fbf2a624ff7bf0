-- The definitions of `operations_directory` that crates above name.
pub use Rattle.plan_records.specs.operations_directory.Operations
pub use Rattle.plan_records.specs.operations_directory.Readings
