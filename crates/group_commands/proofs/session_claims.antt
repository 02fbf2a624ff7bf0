-- What crates above cite of the proofs of `session_claims`.
pub use Rattle.session.proofs.session_claims.Images
pub use Rattle.session.proofs.session_claims.Members
pub use Rattle.session.proofs.session_claims.Pairs
