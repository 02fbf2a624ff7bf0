-- The definitions of `asm_group` that crates above name.
pub use Rattle.asm_group.specs.Names
pub use Rattle.asm_group.specs.Shape
pub mod declared
pub use Rattle.asm_group.specs.Modes
