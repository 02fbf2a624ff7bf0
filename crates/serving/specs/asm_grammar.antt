-- The definitions of `asm_grammar` that crates above name.
pub use Rattle.asm_grammar.specs.FirstWord
