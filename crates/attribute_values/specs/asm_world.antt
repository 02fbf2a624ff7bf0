-- The definitions of `asm_world` that crates above name.
pub use Rattle.asm_world.specs.Files
