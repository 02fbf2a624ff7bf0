-- The types of `extent_copies` that crates above name.
pub use Rattle.extent_copies.specs.declared.extent
