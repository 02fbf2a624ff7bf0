-- The types of `file_extents` that crates above name.
pub use Rattle.group_contents.specs.file_extents.declared.rows
