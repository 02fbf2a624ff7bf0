-- What crates above cite of the proofs of `asm_base`.
pub use Rattle.asm_base.proofs.Tables
