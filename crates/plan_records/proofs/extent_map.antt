-- What crates above cite of the proofs of `extent_map`.
pub use Rattle.catalog_units.proofs.extent_map.ChunkEnds
pub use Rattle.catalog_units.proofs.extent_map.CutChunks
pub use Rattle.catalog_units.proofs.extent_map.Ends
pub use Rattle.catalog_units.proofs.extent_map.FileEnds
pub use Rattle.catalog_units.proofs.extent_map.FileOrder
pub use Rattle.catalog_units.proofs.extent_map.Laws
pub use Rattle.catalog_units.proofs.extent_map.Lookups
pub use Rattle.catalog_units.proofs.extent_map.Numbering
pub use Rattle.catalog_units.proofs.extent_map.Values
