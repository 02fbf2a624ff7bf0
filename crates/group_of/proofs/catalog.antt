-- What crates above cite of the proofs of `catalog`.
pub use Rattle.catalog_laws.proofs.catalog.NumberedEntries
