-- The definitions of `directory_store` that crates above name.
pub use Rattle.file_extents.specs.directory_store.Answers
