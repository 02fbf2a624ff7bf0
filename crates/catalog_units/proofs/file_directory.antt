-- What crates above cite of the proofs of `file_directory`.
pub use Rattle.catalog_tables.proofs.file_directory.Laws
