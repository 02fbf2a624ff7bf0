-- The types of `extent_copies` that crates above name.
pub use Rattle.group_engine.specs.extent_copies.declared.extent
