-- The definitions of `catalog_tables` that crates above name.
pub use Rattle.group_recovery.specs.catalog_tables.Faults
pub use Rattle.group_recovery.specs.catalog_tables.Tables
