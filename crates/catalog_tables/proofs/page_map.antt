-- What crates above cite of the proofs of `page_map`.
pub use Rattle.page_map.proofs.Changing
pub use Rattle.page_map.proofs.Keys
