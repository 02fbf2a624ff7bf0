-- What crates above cite of the proofs of `page_map`.
pub use Rattle.catalog_units.proofs.page_map.Keys
