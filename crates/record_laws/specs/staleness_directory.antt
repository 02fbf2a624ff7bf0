-- The definitions of `staleness_directory` that crates above name.
pub use Rattle.group_engine.specs.staleness_directory.Marks
