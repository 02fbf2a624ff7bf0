-- What crates above cite of the proofs of `staleness_directory`.
pub use Rattle.staleness_directory.proofs.Laws
