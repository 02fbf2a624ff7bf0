-- The definitions of `directory_store` that crates above name.
pub use Rattle.group_contents.specs.directory_store.Answers
