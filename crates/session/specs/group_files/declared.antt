-- The types of `group_files` that crates above name.
pub use Rattle.session_claims.specs.group_files.declared.edit
