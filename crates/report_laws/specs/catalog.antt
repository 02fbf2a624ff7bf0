-- The definitions of `catalog` that crates above name.
pub use Rattle.group_of.specs.catalog.NameChecks
pub use Rattle.group_of.specs.catalog.NamePlans
pub mod declared
