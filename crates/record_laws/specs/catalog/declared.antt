-- The types of `catalog` that crates above name.
pub use Rattle.group_engine.specs.catalog.declared.new_file
