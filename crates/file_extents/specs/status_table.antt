-- The definitions of `status_table` that crates above name.
pub use Rattle.catalog_tables.specs.status_table.Changes
