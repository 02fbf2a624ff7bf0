-- The definitions of `partnership` that crates above name.
pub use Rattle.catalog_units.specs.partnership.UnitsOf
