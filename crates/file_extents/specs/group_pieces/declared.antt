-- The types of `group_pieces` that crates above name.
pub use Rattle.group_pieces.specs.declared.copies
pub use Rattle.group_pieces.specs.declared.reading
