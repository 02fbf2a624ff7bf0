-- The definitions of `asm_world` that crates above name.
pub use Rattle.attribute_values.specs.asm_world.Files
