-- What crates above cite of the proofs of `catalog_laws`.
pub use Rattle.rebalance.proofs.catalog_laws.HavingItems
pub use Rattle.rebalance.proofs.catalog_laws.ItemLists
pub use Rattle.rebalance.proofs.catalog_laws.NoCatalog
pub use Rattle.rebalance.proofs.catalog_laws.ToldRecords
