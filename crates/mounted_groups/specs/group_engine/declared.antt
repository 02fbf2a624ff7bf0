-- The types of `group_engine` that crates above name.
pub use Rattle.group_engine.specs.declared.attached
