-- The definitions of `template_directory` that crates above name.
pub use Rattle.plan_records.specs.template_directory.Meant
pub use Rattle.plan_records.specs.template_directory.Tables
