-- What crates above cite of the proofs of `catalog_tables`.
pub use Rattle.rebalance.proofs.catalog_tables.AfterLaws
pub use Rattle.rebalance.proofs.catalog_tables.EntryLaws
pub use Rattle.rebalance.proofs.catalog_tables.HomeUnits
pub use Rattle.rebalance.proofs.catalog_tables.PlacingLaws
pub use Rattle.rebalance.proofs.catalog_tables.TableItems
