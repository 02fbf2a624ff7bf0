-- The definitions of `file_extents` that crates above name.
pub use Rattle.group_contents.specs.file_extents.Filling
pub use Rattle.group_contents.specs.file_extents.Rows
pub mod declared
