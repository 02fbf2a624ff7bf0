-- The definitions of `alias_edits` that crates above name.
pub use Rattle.group_of.specs.alias_edits.Edits
