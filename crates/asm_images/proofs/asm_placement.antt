-- What crates above cite of the proofs of `asm_placement`.
pub use Rattle.asm_placement.proofs.Membership
