-- The definitions of `directory_store` that crates above name.
pub use Rattle.directory_store.specs.Answers
pub use Rattle.directory_store.specs.Contents
pub use Rattle.directory_store.specs.Copies
pub use Rattle.directory_store.specs.Loading
pub use Rattle.directory_store.specs.Reading
pub use Rattle.directory_store.specs.Stores
pub mod declared
