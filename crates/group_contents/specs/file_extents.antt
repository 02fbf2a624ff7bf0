-- The definitions of `file_extents` that crates above name.
pub use Rattle.file_extents.specs.Filling
pub use Rattle.file_extents.specs.Rows
pub mod declared
