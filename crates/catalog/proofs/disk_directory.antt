-- What crates above cite of the proofs of `disk_directory`.
pub use Rattle.plan_records.proofs.disk_directory.DiskLaws
