-- The definitions of `extent_copies` that crates above name.
pub use Rattle.group_engine.specs.extent_copies.Extents
pub use Rattle.group_engine.specs.extent_copies.NewFiles
pub use Rattle.group_engine.specs.extent_copies.Usable
pub mod declared
