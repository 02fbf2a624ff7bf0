-- The definitions of `group_engine` that crates above name.
pub use Rattle.group_engine.specs.Becoming
pub use Rattle.group_engine.specs.CommitSteps
pub use Rattle.group_engine.specs.Commits
pub use Rattle.group_engine.specs.Copying
pub use Rattle.group_engine.specs.Dropping
pub use Rattle.group_engine.specs.Frames
pub use Rattle.group_engine.specs.Making
pub use Rattle.group_engine.specs.Members
pub use Rattle.group_engine.specs.Mounts
pub use Rattle.group_engine.specs.NextRecords
pub use Rattle.group_engine.specs.Own
pub use Rattle.group_engine.specs.Pending
pub use Rattle.group_engine.specs.Recorded
pub use Rattle.group_engine.specs.Searches
pub use Rattle.group_engine.specs.Statuses
pub mod declared
