-- The definitions of `group_of` that crates above name.
pub use Rattle.file_extents.specs.group_of.Describing
pub use Rattle.file_extents.specs.group_of.Edits
pub use Rattle.file_extents.specs.group_of.Groups
