-- What crates above cite of the proofs of `session_claims`.
pub use Rattle.group_commands.proofs.session_claims.Images
pub use Rattle.group_commands.proofs.session_claims.Members
pub use Rattle.group_commands.proofs.session_claims.Pairs
