-- The definitions of `group_of` that crates above name.
pub use Rattle.group_pieces.specs.group_of.Describing
pub use Rattle.group_pieces.specs.group_of.Edits
pub use Rattle.group_pieces.specs.group_of.Groups
