-- The definitions of `directory_store` that crates above name.
pub use Rattle.record_laws.specs.directory_store.Answers
