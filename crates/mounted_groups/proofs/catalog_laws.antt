-- What crates above cite of the proofs of `catalog_laws`.
pub use Rattle.group_engine.proofs.catalog_laws.ToldRecords
