-- The definitions of `group_engine` that crates above name.
pub use Rattle.group_engine.specs.Commits
pub use Rattle.group_engine.specs.Frames
pub use Rattle.group_engine.specs.Making
pub use Rattle.group_engine.specs.Mounts
pub use Rattle.group_engine.specs.Own
pub use Rattle.group_engine.specs.Pending
pub mod declared
