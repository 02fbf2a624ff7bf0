-- What crates above cite of the proofs of `item_table`.
pub use Rattle.item_table.proofs.Laws
