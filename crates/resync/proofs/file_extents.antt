-- What crates above cite of the proofs of `file_extents`.
pub use Rattle.file_extents.proofs.Chains
