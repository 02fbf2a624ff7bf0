-- The definitions of `group_engine` that crates above name.
pub use Rattle.record_laws.specs.group_engine.Members
pub use Rattle.record_laws.specs.group_engine.Mounts
