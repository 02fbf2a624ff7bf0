-- The definitions of `asm_base` that crates above name.
pub use Rattle.asm_base.specs.Records
