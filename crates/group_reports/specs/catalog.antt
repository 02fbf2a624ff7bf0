-- The definitions of `catalog` that crates above name.
pub use Rattle.catalog_laws.specs.catalog.Plans
