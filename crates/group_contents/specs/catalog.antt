-- The definitions of `catalog` that crates above name.
pub use Rattle.file_extents.specs.catalog.TreePlans
pub mod declared
