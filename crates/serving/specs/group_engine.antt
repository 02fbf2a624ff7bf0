-- The definitions of `group_engine` that crates above name.
pub use Rattle.disk_commands.specs.group_engine.Mounts
