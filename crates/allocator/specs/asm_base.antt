-- The definitions of `asm_base` that crates above name.
pub use Rattle.asm_base.specs.Blocks
pub use Rattle.asm_base.specs.Frames
pub use Rattle.asm_base.specs.Homes
pub use Rattle.asm_base.specs.Records
pub mod declared
