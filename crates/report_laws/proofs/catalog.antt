-- What crates above cite of the proofs of `catalog`.
pub use Rattle.group_of.proofs.catalog.NumberedEntries
