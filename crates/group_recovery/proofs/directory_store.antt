-- What crates above cite of the proofs of `directory_store`.
pub use Rattle.directory_store.proofs.Storing
