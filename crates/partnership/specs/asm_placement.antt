-- The definitions of `asm_placement` that crates above name.
pub use Rattle.asm_placement.specs.Copies
pub use Rattle.asm_placement.specs.DiskSets
pub use Rattle.asm_placement.specs.Layout
pub use Rattle.asm_placement.specs.Naming
pub use Rattle.asm_placement.specs.Placed
pub use Rattle.asm_placement.specs.Space
pub use Rattle.asm_placement.specs.Tables
pub use Rattle.asm_placement.specs.Work
