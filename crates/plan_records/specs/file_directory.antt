-- The definitions of `file_directory` that crates above name.
pub use Rattle.catalog_units.specs.file_directory.Changing
pub use Rattle.catalog_units.specs.file_directory.Entries
pub use Rattle.catalog_units.specs.file_directory.Files
