-- The types of `catalog_tables` that crates above name.
pub use Rattle.plan_records.specs.catalog_tables.declared.error
