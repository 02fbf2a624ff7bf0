-- The definitions of `catalog` that crates above name.
pub use Rattle.file_extents.specs.catalog.ExtentPlans
pub use Rattle.file_extents.specs.catalog.Plans
