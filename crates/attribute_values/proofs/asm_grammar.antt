-- What crates above cite of the proofs of `asm_grammar`.
pub use Rattle.asm_grammar.proofs.Written
