-- What crates above cite of the proofs of `operations_directory`.
pub use Rattle.plan_records.proofs.operations_directory.Laws
