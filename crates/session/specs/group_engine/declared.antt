-- The types of `group_engine` that crates above name.
pub use Rattle.group_contents.specs.group_engine.declared.access
pub use Rattle.group_contents.specs.group_engine.declared.attached
