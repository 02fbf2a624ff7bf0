-- The definitions of `group_engine` that crates above name.
pub use Rattle.file_extents.specs.group_engine.Commits
pub use Rattle.file_extents.specs.group_engine.Copying
pub use Rattle.file_extents.specs.group_engine.Making
pub use Rattle.file_extents.specs.group_engine.Members
pub use Rattle.file_extents.specs.group_engine.Mounts
pub use Rattle.file_extents.specs.group_engine.Own
pub use Rattle.file_extents.specs.group_engine.Pending
pub use Rattle.file_extents.specs.group_engine.Searches
pub mod declared
