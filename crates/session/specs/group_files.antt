-- The definitions of `group_files` that crates above name.
pub use Rattle.session_claims.specs.group_files.Edits
pub use Rattle.session_claims.specs.group_files.GroupEdits
pub mod declared
