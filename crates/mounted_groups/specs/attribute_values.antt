-- The definitions of `attribute_values` that crates above name.
pub use Rattle.group_recovery.specs.attribute_values.Creations
