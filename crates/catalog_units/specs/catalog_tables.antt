-- The definitions of `catalog_tables` that crates above name.
pub use Rattle.catalog_tables.specs.Changing
pub use Rattle.catalog_tables.specs.Faults
pub use Rattle.catalog_tables.specs.Items
pub use Rattle.catalog_tables.specs.MarkedExtents
pub use Rattle.catalog_tables.specs.Placing
pub use Rattle.catalog_tables.specs.Rules
pub use Rattle.catalog_tables.specs.Tables
pub mod declared
