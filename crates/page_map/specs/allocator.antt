-- The definitions of `allocator` that crates above name.
pub use Rattle.allocator.specs.UnitMaps
