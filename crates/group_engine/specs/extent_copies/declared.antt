-- The types of `extent_copies` that crates above name.
pub use Rattle.rebalance.specs.extent_copies.declared.extent
