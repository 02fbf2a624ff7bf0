-- What crates above cite of the proofs of `extent_map`.
pub use Rattle.catalog.proofs.extent_map.FileEnds
pub use Rattle.catalog.proofs.extent_map.FileOrder
pub use Rattle.catalog.proofs.extent_map.Laws
pub use Rattle.catalog.proofs.extent_map.Lookups
pub use Rattle.catalog.proofs.extent_map.Numbering
