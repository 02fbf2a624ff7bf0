-- What crates above cite of the proofs of `staleness_directory`.
pub use Rattle.catalog_tables.proofs.staleness_directory.Laws
