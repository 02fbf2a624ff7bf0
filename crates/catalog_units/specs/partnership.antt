-- The definitions of `partnership` that crates above name.
pub use Rattle.catalog_tables.specs.partnership.UnitsOf
