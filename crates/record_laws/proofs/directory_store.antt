-- What crates above cite of the proofs of `directory_store`.
pub use Rattle.group_engine.proofs.directory_store.Storing
