-- What crates above cite of the proofs of `file_directory`.
pub use Rattle.plan_records.proofs.file_directory.Laws
