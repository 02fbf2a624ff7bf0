-- The definitions of `extent_copies` that crates above name.
pub use Rattle.group_pieces.specs.extent_copies.Extents
pub use Rattle.group_pieces.specs.extent_copies.NewFiles
pub mod declared
