-- The definitions of `alias_edits` that crates above name.
pub use Rattle.catalog_laws.specs.alias_edits.Edits
