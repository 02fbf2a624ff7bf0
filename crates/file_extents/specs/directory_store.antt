-- The definitions of `directory_store` that crates above name.
pub use Rattle.group_pieces.specs.directory_store.Answers
