-- What crates above cite of the proofs of `catalog_tables`.
pub use Rattle.catalog_units.proofs.catalog_tables.AfterLaws
pub use Rattle.catalog_units.proofs.catalog_tables.EntryLaws
pub use Rattle.catalog_units.proofs.catalog_tables.FileLaws
pub use Rattle.catalog_units.proofs.catalog_tables.HomeUnits
pub use Rattle.catalog_units.proofs.catalog_tables.NewRecords
pub use Rattle.catalog_units.proofs.catalog_tables.NumberedLists
pub use Rattle.catalog_units.proofs.catalog_tables.PlacingLaws
pub use Rattle.catalog_units.proofs.catalog_tables.SameTables
pub use Rattle.catalog_units.proofs.catalog_tables.SameUnits
pub use Rattle.catalog_units.proofs.catalog_tables.SetLaws
pub use Rattle.catalog_units.proofs.catalog_tables.TableItems
pub use Rattle.catalog_units.proofs.catalog_tables.UnusedLaws
