-- The definitions of `catalog` that crates above name.
pub use Rattle.record_laws.specs.catalog.ExtentPlans
pub use Rattle.record_laws.specs.catalog.FilePlans
pub use Rattle.record_laws.specs.catalog.NameChecks
pub use Rattle.record_laws.specs.catalog.NamePlans
pub use Rattle.record_laws.specs.catalog.Numbers
pub use Rattle.record_laws.specs.catalog.Plans
pub use Rattle.record_laws.specs.catalog.TreePlans
pub mod declared
