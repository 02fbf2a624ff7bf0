-- The types of `catalog` that crates above name.
pub use Rattle.file_extents.specs.catalog.declared.new_file
