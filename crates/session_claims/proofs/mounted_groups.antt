-- What crates above cite of the proofs of `mounted_groups`.
pub use Rattle.mounted_groups.proofs.MountRefusals
pub use Rattle.mounted_groups.proofs.ReadNames
