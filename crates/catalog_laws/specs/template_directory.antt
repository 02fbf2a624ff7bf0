-- The definitions of `template_directory` that crates above name.
pub use Rattle.catalog.specs.template_directory.Meant
