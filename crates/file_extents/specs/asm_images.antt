-- The definitions of `asm_images` that crates above name.
pub use Rattle.group_pieces.specs.asm_images.RecordLaws
