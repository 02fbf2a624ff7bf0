-- The definitions of `group_files` that crates above name.
pub use Rattle.edit_laws.specs.group_files.Edits
pub use Rattle.edit_laws.specs.group_files.GroupEdits
pub mod declared
