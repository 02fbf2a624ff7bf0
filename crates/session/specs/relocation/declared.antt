-- The types of `relocation` that crates above name.
pub use Rattle.group_turns.specs.relocation.declared.asking
