-- The definitions of `extent_map` that crates above name.
pub use Rattle.extent_map.specs.Changing
pub use Rattle.extent_map.specs.Extents
pub use Rattle.extent_map.specs.Faults
