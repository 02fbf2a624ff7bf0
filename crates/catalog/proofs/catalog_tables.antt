-- What crates above cite of the proofs of `catalog_tables`.
pub use Rattle.plan_records.proofs.catalog_tables.AfterLaws
pub use Rattle.plan_records.proofs.catalog_tables.EntryLaws
pub use Rattle.plan_records.proofs.catalog_tables.FileLaws
pub use Rattle.plan_records.proofs.catalog_tables.HomeUnits
pub use Rattle.plan_records.proofs.catalog_tables.NumberedLists
pub use Rattle.plan_records.proofs.catalog_tables.PlacingLaws
pub use Rattle.plan_records.proofs.catalog_tables.SameTables
pub use Rattle.plan_records.proofs.catalog_tables.SameUnits
pub use Rattle.plan_records.proofs.catalog_tables.TableItems
