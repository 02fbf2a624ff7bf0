-- What crates above cite of the proofs of `mounted_groups`.
pub use Rattle.mounted_groups.proofs.Spared
pub use Rattle.mounted_groups.proofs.Staying
