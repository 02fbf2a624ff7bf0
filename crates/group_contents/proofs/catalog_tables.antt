-- What crates above cite of the proofs of `catalog_tables`.
pub use Rattle.file_extents.proofs.catalog_tables.AfterLaws
pub use Rattle.file_extents.proofs.catalog_tables.TableItems
