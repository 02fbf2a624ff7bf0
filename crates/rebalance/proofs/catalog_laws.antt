-- What crates above cite of the proofs of `catalog_laws`.
pub use Rattle.catalog_laws.proofs.HavingItems
pub use Rattle.catalog_laws.proofs.ItemLists
pub use Rattle.catalog_laws.proofs.NoCatalog
pub use Rattle.catalog_laws.proofs.RegularHomes
pub use Rattle.catalog_laws.proofs.ToldRecords
