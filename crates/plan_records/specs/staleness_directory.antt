-- The definitions of `staleness_directory` that crates above name.
pub use Rattle.catalog_units.specs.staleness_directory.Changing
pub use Rattle.catalog_units.specs.staleness_directory.MarkEntries
pub use Rattle.catalog_units.specs.staleness_directory.Marks
