-- What crates above cite of the proofs of `extent_map`.
pub use Rattle.extent_map.proofs.ChunkEnds
pub use Rattle.extent_map.proofs.CutChunks
pub use Rattle.extent_map.proofs.Ends
pub use Rattle.extent_map.proofs.FileEnds
pub use Rattle.extent_map.proofs.FileOrder
pub use Rattle.extent_map.proofs.Laws
pub use Rattle.extent_map.proofs.Lookups
pub use Rattle.extent_map.proofs.Numbering
pub use Rattle.extent_map.proofs.Values
