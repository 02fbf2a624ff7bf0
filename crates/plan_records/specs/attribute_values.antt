-- The definitions of `attribute_values` that crates above name.
pub use Rattle.attribute_values.specs.Creations
pub use Rattle.attribute_values.specs.Edits
