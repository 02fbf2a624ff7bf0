-- What crates above cite of the proofs of `edit_laws`.
pub use Rattle.session_claims.proofs.edit_laws.OfTables
