-- What crates above cite of the proofs of `resync`.
pub use Rattle.resync.proofs.Chains
