-- The types of `alias_edits` that crates above name.
pub use Rattle.alias_edits.specs.declared.editing
pub use Rattle.alias_edits.specs.declared.planning
