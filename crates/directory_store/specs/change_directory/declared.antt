-- The types of `change_directory` that crates above name.
pub use Rattle.change_directory.specs.declared.copy
