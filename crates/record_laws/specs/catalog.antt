-- The definitions of `catalog` that crates above name.
pub use Rattle.group_engine.specs.catalog.ExtentPlans
pub use Rattle.group_engine.specs.catalog.FilePlans
pub use Rattle.group_engine.specs.catalog.NameChecks
pub use Rattle.group_engine.specs.catalog.NamePlans
pub use Rattle.group_engine.specs.catalog.Numbers
pub use Rattle.group_engine.specs.catalog.Plans
pub use Rattle.group_engine.specs.catalog.TreePlans
pub mod declared
