-- The types of `relocation` that crates above name.
pub use Rattle.relocation.specs.declared.asking
