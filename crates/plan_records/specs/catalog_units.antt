-- The definitions of `catalog_units` that crates above name.
pub use Rattle.catalog_units.specs.Giving
