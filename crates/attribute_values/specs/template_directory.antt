-- The definitions of `template_directory` that crates above name.
pub use Rattle.template_directory.specs.Meant
pub use Rattle.template_directory.specs.Tables
