-- What crates above cite of the proofs of `session_claims`.
pub use Rattle.session_claims.proofs.Edited
pub use Rattle.session_claims.proofs.FoundMembers
pub use Rattle.session_claims.proofs.Images
pub use Rattle.session_claims.proofs.Looks
pub use Rattle.session_claims.proofs.Members
pub use Rattle.session_claims.proofs.Mounted
pub use Rattle.session_claims.proofs.Pairs
pub use Rattle.session_claims.proofs.Written
