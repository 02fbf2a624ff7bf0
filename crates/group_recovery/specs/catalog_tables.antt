-- The definitions of `catalog_tables` that crates above name.
pub use Rattle.catalog.specs.catalog_tables.Changing
pub use Rattle.catalog.specs.catalog_tables.Faults
pub use Rattle.catalog.specs.catalog_tables.Items
pub use Rattle.catalog.specs.catalog_tables.MarkedExtents
pub use Rattle.catalog.specs.catalog_tables.Placing
pub use Rattle.catalog.specs.catalog_tables.Rules
pub use Rattle.catalog.specs.catalog_tables.Tables
pub mod declared
