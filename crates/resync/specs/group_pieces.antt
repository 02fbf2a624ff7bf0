-- The definitions of `group_pieces` that crates above name.
pub use Rattle.file_extents.specs.group_pieces.Faults
