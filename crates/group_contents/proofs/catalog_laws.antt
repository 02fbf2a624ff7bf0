-- What crates above cite of the proofs of `catalog_laws`.
pub use Rattle.file_extents.proofs.catalog_laws.HavingItems
