-- What crates above cite of the proofs of `resync`.
pub use Rattle.relocation.proofs.resync.Chains
