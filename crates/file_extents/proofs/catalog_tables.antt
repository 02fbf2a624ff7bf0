-- What crates above cite of the proofs of `catalog_tables`.
pub use Rattle.catalog_tables.proofs.AfterLaws
pub use Rattle.catalog_tables.proofs.NumberedLists
pub use Rattle.catalog_tables.proofs.TableItems
