-- What crates above cite of the proofs of `disk_directory`.
pub use Rattle.disk_directory.proofs.DiskLaws
