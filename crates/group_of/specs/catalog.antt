-- The definitions of `catalog` that crates above name.
pub use Rattle.catalog_laws.specs.catalog.NameChecks
pub use Rattle.catalog_laws.specs.catalog.NamePlans
pub mod declared
