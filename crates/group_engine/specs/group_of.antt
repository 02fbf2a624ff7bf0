-- The definitions of `group_of` that crates above name.
pub use Rattle.group_of.specs.Describing
pub use Rattle.group_of.specs.Edits
pub use Rattle.group_of.specs.Groups
