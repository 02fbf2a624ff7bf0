-- The definitions of `extent_map` that crates above name.
pub use Rattle.plan_records.specs.extent_map.Extents
pub use Rattle.plan_records.specs.extent_map.Faults
