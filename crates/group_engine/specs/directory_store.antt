-- The definitions of `directory_store` that crates above name.
pub use Rattle.directory_store.specs.Answers
pub use Rattle.directory_store.specs.Copies
