-- What crates above cite of the proofs of `catalog_laws`.
pub use Rattle.record_laws.proofs.catalog_laws.HavingItems
