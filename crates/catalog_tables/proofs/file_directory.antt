-- What crates above cite of the proofs of `file_directory`.
pub use Rattle.file_directory.proofs.Laws
