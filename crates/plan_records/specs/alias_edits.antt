-- The definitions of `alias_edits` that crates above name.
pub use Rattle.alias_edits.specs.Edits
pub use Rattle.alias_edits.specs.Filing
pub mod declared
