-- What crates above cite of the proofs of `operations_directory`.
pub use Rattle.operations_directory.proofs.ChangeLaws
pub use Rattle.operations_directory.proofs.Laws
