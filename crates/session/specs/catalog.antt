-- The definitions of `catalog` that crates above name.
pub use Rattle.group_contents.specs.catalog.TreePlans
