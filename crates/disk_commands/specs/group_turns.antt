-- The definitions of `group_turns` that crates above name.
pub use Rattle.session.specs.group_turns.Turns
