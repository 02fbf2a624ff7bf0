-- The definitions of `group_pieces` that crates above name.
pub use Rattle.group_pieces.specs.Bytes
pub use Rattle.group_pieces.specs.Copies
pub use Rattle.group_pieces.specs.Faults
pub use Rattle.group_pieces.specs.Held
pub use Rattle.group_pieces.specs.Pieces
pub use Rattle.group_pieces.specs.Reads
pub use Rattle.group_pieces.specs.Spare
pub use Rattle.group_pieces.specs.Usable
pub mod declared
