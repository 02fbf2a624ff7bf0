-- What crates above cite of the proofs of `page_map`.
pub use Rattle.catalog_tables.proofs.page_map.Keys
