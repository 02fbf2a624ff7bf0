-- The definitions of `extent_copies` that crates above name.
pub use Rattle.record_laws.specs.extent_copies.Extents
pub use Rattle.record_laws.specs.extent_copies.NewFiles
pub mod declared
