-- What crates above cite of the proofs of `disk_directory`.
pub use Rattle.catalog_units.proofs.disk_directory.DiskLaws
