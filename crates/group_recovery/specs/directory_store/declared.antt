-- The types of `directory_store` that crates above name.
pub use Rattle.directory_store.specs.declared.error
