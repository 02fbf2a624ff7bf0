-- The types of `group_engine` that crates above name.
pub use Rattle.record_laws.specs.group_engine.declared.access
pub use Rattle.record_laws.specs.group_engine.declared.attached
pub use Rattle.record_laws.specs.group_engine.declared.flight
