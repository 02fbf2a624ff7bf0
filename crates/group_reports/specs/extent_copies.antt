-- The definitions of `extent_copies` that crates above name.
pub use Rattle.extent_copies.specs.NewFiles
pub use Rattle.extent_copies.specs.Usable
pub mod declared
