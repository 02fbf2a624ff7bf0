-- The definitions of `template_directory` that crates above name.
pub use Rattle.attribute_values.specs.template_directory.Meant
pub use Rattle.attribute_values.specs.template_directory.Tables
