-- What crates above cite of the proofs of `mounted_groups`.
pub use Rattle.session_claims.proofs.mounted_groups.MountRefusals
pub use Rattle.session_claims.proofs.mounted_groups.ReadNames
