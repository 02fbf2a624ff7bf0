-- The definitions of `extent_copies` that crates above name.
pub use Rattle.rebalance.specs.extent_copies.Extents
pub use Rattle.rebalance.specs.extent_copies.NewFiles
pub use Rattle.rebalance.specs.extent_copies.Usable
pub mod declared
