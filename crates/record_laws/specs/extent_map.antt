-- The definitions of `extent_map` that crates above name.
pub use Rattle.group_engine.specs.extent_map.Extents
