-- What crates above cite of the proofs of `alias_edits`.
pub use Rattle.catalog.proofs.alias_edits.Growing
