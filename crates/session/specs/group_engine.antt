-- The definitions of `group_engine` that crates above name.
pub use Rattle.group_contents.specs.group_engine.Commits
pub use Rattle.group_contents.specs.group_engine.Frames
pub use Rattle.group_contents.specs.group_engine.Making
pub use Rattle.group_contents.specs.group_engine.Members
pub use Rattle.group_contents.specs.group_engine.Mounts
pub use Rattle.group_contents.specs.group_engine.Own
pub mod declared
