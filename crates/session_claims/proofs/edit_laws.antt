-- What crates above cite of the proofs of `edit_laws`.
pub use Rattle.edit_laws.proofs.OfTables
