-- The types of `catalog` that crates above name.
pub use Rattle.group_of.specs.catalog.declared.new_file
