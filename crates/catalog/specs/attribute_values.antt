-- The definitions of `attribute_values` that crates above name.
pub use Rattle.plan_records.specs.attribute_values.Creations
