-- The definitions of `asm_placement` that crates above name.
pub use Rattle.partnership.specs.asm_placement.Layout
pub use Rattle.partnership.specs.asm_placement.Placed
