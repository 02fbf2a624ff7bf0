-- What crates above cite of the proofs of `catalog_laws`.
pub use Rattle.group_pieces.proofs.catalog_laws.HavingItems
