-- What crates above cite of the proofs of `catalog_tables`.
pub use Rattle.group_engine.proofs.catalog_tables.AfterLaws
