-- The types of `file_extents` that crates above name.
pub use Rattle.file_extents.specs.declared.rows
