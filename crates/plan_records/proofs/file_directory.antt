-- What crates above cite of the proofs of `file_directory`.
pub use Rattle.catalog_units.proofs.file_directory.Laws
