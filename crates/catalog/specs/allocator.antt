-- The definitions of `allocator` that crates above name.
pub use Rattle.plan_records.specs.allocator.UnitMaps
