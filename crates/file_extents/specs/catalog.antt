-- The definitions of `catalog` that crates above name.
pub use Rattle.group_pieces.specs.catalog.ExtentPlans
pub use Rattle.group_pieces.specs.catalog.FilePlans
pub use Rattle.group_pieces.specs.catalog.NameChecks
pub use Rattle.group_pieces.specs.catalog.NamePlans
pub use Rattle.group_pieces.specs.catalog.Numbers
pub use Rattle.group_pieces.specs.catalog.Plans
pub use Rattle.group_pieces.specs.catalog.TreePlans
pub mod declared
