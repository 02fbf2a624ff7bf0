-- The definitions of `group_files` that crates above name.
pub use Rattle.group_files.specs.Edits
pub use Rattle.group_files.specs.GroupEdits
pub mod declared
