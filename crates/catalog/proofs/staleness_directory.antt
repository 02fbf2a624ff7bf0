-- What crates above cite of the proofs of `staleness_directory`.
pub use Rattle.plan_records.proofs.staleness_directory.Laws
