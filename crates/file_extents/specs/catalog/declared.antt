-- The types of `catalog` that crates above name.
pub use Rattle.group_pieces.specs.catalog.declared.new_file
