-- The types of `group_files` that crates above name.
pub use Rattle.group_files.specs.declared.edit
