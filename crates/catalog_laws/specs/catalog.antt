-- The definitions of `catalog` that crates above name.
pub use Rattle.catalog.specs.Applying
pub use Rattle.catalog.specs.ExtentPlans
pub use Rattle.catalog.specs.FilePlans
pub use Rattle.catalog.specs.NameChecks
pub use Rattle.catalog.specs.NamePlans
pub use Rattle.catalog.specs.Numbers
pub use Rattle.catalog.specs.Plans
pub use Rattle.catalog.specs.TreePlans
pub mod declared
