-- What crates above cite of the proofs of `catalog_tables`.
pub use Rattle.group_contents.proofs.catalog_tables.AfterLaws
