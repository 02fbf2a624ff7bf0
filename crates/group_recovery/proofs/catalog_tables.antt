-- What crates above cite of the proofs of `catalog_tables`.
pub use Rattle.catalog.proofs.catalog_tables.AfterLaws
pub use Rattle.catalog.proofs.catalog_tables.NumberedLists
pub use Rattle.catalog.proofs.catalog_tables.SameTables
pub use Rattle.catalog.proofs.catalog_tables.TableItems
