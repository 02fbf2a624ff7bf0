-- The definitions of `group_of` that crates above name.
pub use Rattle.record_laws.specs.group_of.Describing
pub use Rattle.record_laws.specs.group_of.Edits
pub use Rattle.record_laws.specs.group_of.Groups
