-- The definitions of `alias_edits` that crates above name.
pub use Rattle.catalog.specs.alias_edits.Edits
pub use Rattle.catalog.specs.alias_edits.Filing
