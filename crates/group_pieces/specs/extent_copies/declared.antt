-- The types of `extent_copies` that crates above name.
pub use Rattle.record_laws.specs.extent_copies.declared.extent
