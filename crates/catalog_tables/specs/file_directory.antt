-- The definitions of `file_directory` that crates above name.
pub use Rattle.file_directory.specs.Changing
pub use Rattle.file_directory.specs.Entries
pub use Rattle.file_directory.specs.Files
