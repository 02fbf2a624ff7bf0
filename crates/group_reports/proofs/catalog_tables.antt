-- What crates above cite of the proofs of `catalog_tables`.
pub use Rattle.catalog_laws.proofs.catalog_tables.AfterLaws
