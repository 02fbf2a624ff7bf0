-- What crates above cite of the proofs of `operations_directory`.
pub use Rattle.catalog_units.proofs.operations_directory.ChangeLaws
pub use Rattle.catalog_units.proofs.operations_directory.Laws
