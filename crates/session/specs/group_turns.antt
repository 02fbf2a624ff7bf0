-- The definitions of `group_turns` that crates above name.
pub use Rattle.group_turns.specs.Turns
