-- The types of `catalog` that crates above name.
pub use Rattle.catalog.specs.declared.new_file
