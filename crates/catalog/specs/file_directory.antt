-- The definitions of `file_directory` that crates above name.
pub use Rattle.plan_records.specs.file_directory.Entries
pub use Rattle.plan_records.specs.file_directory.Files
