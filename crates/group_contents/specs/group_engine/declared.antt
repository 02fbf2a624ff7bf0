-- The types of `group_engine` that crates above name.
pub use Rattle.file_extents.specs.group_engine.declared.access
pub use Rattle.file_extents.specs.group_engine.declared.attached
