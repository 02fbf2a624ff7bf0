-- The types of `group_files` that crates above name.
pub use Rattle.edit_laws.specs.group_files.declared.edit
