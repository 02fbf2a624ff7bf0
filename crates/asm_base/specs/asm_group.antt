-- The definitions of `asm_group` that crates above name.
pub use Rattle.asm_group.specs.Group
pub use Rattle.asm_group.specs.Names
pub mod declared
