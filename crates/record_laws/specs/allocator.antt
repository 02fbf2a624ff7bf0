-- The definitions of `allocator` that crates above name.
pub use Rattle.group_engine.specs.allocator.UnitMaps
