-- What crates above cite of the proofs of `staleness_directory`.
pub use Rattle.catalog_units.proofs.staleness_directory.Laws
