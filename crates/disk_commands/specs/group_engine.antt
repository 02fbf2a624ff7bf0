-- The definitions of `group_engine` that crates above name.
pub use Rattle.session.specs.group_engine.Mounts
