-- The types of `asm_base` that crates above name.
pub use Rattle.refusal_lines.specs.declared.refusal
