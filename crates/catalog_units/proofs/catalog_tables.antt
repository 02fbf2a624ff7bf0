-- What crates above cite of the proofs of `catalog_tables`.
pub use Rattle.catalog_tables.proofs.AfterLaws
pub use Rattle.catalog_tables.proofs.EntryLaws
pub use Rattle.catalog_tables.proofs.FileLaws
pub use Rattle.catalog_tables.proofs.HomeUnits
pub use Rattle.catalog_tables.proofs.NewRecords
pub use Rattle.catalog_tables.proofs.NumberedLists
pub use Rattle.catalog_tables.proofs.PlacingLaws
pub use Rattle.catalog_tables.proofs.SameTables
pub use Rattle.catalog_tables.proofs.SameUnits
pub use Rattle.catalog_tables.proofs.SetLaws
pub use Rattle.catalog_tables.proofs.TableItems
pub use Rattle.catalog_tables.proofs.UnusedLaws
