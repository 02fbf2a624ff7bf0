-- The definitions of `directory_store` that crates above name.
pub use Rattle.group_engine.specs.directory_store.Answers
