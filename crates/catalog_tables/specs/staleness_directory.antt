-- The definitions of `staleness_directory` that crates above name.
pub use Rattle.staleness_directory.specs.Changing
pub use Rattle.staleness_directory.specs.MarkEntries
pub use Rattle.staleness_directory.specs.Marks
