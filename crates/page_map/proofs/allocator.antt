-- What crates above cite of the proofs of `allocator`.
pub use Rattle.allocator.proofs.Maps
