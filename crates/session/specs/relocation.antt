-- The definitions of `relocation` that crates above name.
pub use Rattle.group_turns.specs.relocation.Shortfalls
pub use Rattle.group_turns.specs.relocation.Slices
pub mod declared
