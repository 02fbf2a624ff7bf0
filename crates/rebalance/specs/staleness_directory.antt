-- The definitions of `staleness_directory` that crates above name.
pub use Rattle.catalog_laws.specs.staleness_directory.Marks
