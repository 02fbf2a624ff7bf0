-- What crates above cite of the proofs of `catalog_units`.
pub use Rattle.catalog_units.proofs.ChangeUnits
pub use Rattle.catalog_units.proofs.ChunkUnits
pub use Rattle.catalog_units.proofs.ResizedUnits
pub use Rattle.catalog_units.proofs.UnitOrder
