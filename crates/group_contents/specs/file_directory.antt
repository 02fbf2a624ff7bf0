-- The definitions of `file_directory` that crates above name.
pub use Rattle.file_extents.specs.file_directory.Files
