-- The definitions of `asm_images` that crates above name.
pub use Rattle.asm_images.specs.RecordLaws
