-- The definitions of `catalog` that crates above name.
pub use Rattle.rebalance.specs.catalog.ExtentPlans
pub use Rattle.rebalance.specs.catalog.FilePlans
pub use Rattle.rebalance.specs.catalog.NameChecks
pub use Rattle.rebalance.specs.catalog.NamePlans
pub use Rattle.rebalance.specs.catalog.Numbers
pub use Rattle.rebalance.specs.catalog.Plans
pub use Rattle.rebalance.specs.catalog.TreePlans
pub mod declared
