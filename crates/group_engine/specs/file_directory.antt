-- The definitions of `file_directory` that crates above name.
pub use Rattle.rebalance.specs.file_directory.Files
