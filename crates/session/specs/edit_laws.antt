-- The definitions of `edit_laws` that crates above name.
pub use Rattle.session_claims.specs.edit_laws.Edits
