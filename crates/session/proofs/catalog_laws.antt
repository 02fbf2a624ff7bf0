-- What crates above cite of the proofs of `catalog_laws`.
pub use Rattle.group_contents.proofs.catalog_laws.HavingItems
