-- The definitions of `edit_laws` that crates above name.
pub use Rattle.edit_laws.specs.Edits
