-- The definitions of `asm_formats` that crates above name.
pub use Rattle.asm_formats.specs.Items
