-- The definitions of `catalog` that crates above name.
pub use Rattle.catalog_laws.specs.catalog.Applying
pub use Rattle.catalog_laws.specs.catalog.ExtentPlans
pub use Rattle.catalog_laws.specs.catalog.FilePlans
pub use Rattle.catalog_laws.specs.catalog.NameChecks
pub use Rattle.catalog_laws.specs.catalog.NamePlans
pub use Rattle.catalog_laws.specs.catalog.Numbers
pub use Rattle.catalog_laws.specs.catalog.Plans
pub use Rattle.catalog_laws.specs.catalog.TreePlans
pub mod declared
