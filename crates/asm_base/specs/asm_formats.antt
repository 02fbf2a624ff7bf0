-- The definitions of `asm_formats` that crates above name.
pub use Rattle.asm_formats.specs.Bytes
pub use Rattle.asm_formats.specs.Content
pub use Rattle.asm_formats.specs.Items
pub use Rattle.asm_formats.specs.Records
pub use Rattle.asm_formats.specs.Sets
pub use Rattle.asm_formats.specs.Values
