-- The definitions of `file_directory` that crates above name.
pub use Rattle.catalog.specs.file_directory.Files
