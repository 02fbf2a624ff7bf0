-- The types of `extent_copies` that crates above name.
pub use Rattle.group_pieces.specs.extent_copies.declared.extent
