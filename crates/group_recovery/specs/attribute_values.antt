-- The definitions of `attribute_values` that crates above name.
pub use Rattle.catalog.specs.attribute_values.Creations
