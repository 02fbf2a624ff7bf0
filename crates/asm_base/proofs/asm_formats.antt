-- What crates above cite of the proofs of `asm_formats`.
pub use Rattle.asm_formats.proofs.Bodies
