-- The definitions of `staleness_directory` that crates above name.
pub use Rattle.plan_records.specs.staleness_directory.MarkEntries
pub use Rattle.plan_records.specs.staleness_directory.Marks
