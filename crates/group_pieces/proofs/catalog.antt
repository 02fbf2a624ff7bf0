-- What crates above cite of the proofs of `catalog`.
pub use Rattle.record_laws.proofs.catalog.NumberedEntries
