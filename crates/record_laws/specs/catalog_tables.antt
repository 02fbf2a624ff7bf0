-- The definitions of `catalog_tables` that crates above name.
pub use Rattle.group_engine.specs.catalog_tables.Faults
pub use Rattle.group_engine.specs.catalog_tables.Items
pub use Rattle.group_engine.specs.catalog_tables.Placing
pub use Rattle.group_engine.specs.catalog_tables.Rules
pub use Rattle.group_engine.specs.catalog_tables.Tables
