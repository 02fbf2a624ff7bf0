-- What crates above cite of the proofs of `extent_map`.
pub use Rattle.catalog_tables.proofs.extent_map.Lookups
