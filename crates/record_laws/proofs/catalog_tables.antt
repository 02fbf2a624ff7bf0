-- What crates above cite of the proofs of `catalog_tables`.
pub use Rattle.group_engine.proofs.catalog_tables.AfterLaws
pub use Rattle.group_engine.proofs.catalog_tables.EntryLaws
pub use Rattle.group_engine.proofs.catalog_tables.HomeUnits
pub use Rattle.group_engine.proofs.catalog_tables.PlacingLaws
