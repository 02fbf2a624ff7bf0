-- The definitions of `group_engine` that crates above name.
pub use Rattle.record_laws.specs.group_engine.Commits
pub use Rattle.record_laws.specs.group_engine.Copying
pub use Rattle.record_laws.specs.group_engine.Frames
pub use Rattle.record_laws.specs.group_engine.Making
pub use Rattle.record_laws.specs.group_engine.Members
pub use Rattle.record_laws.specs.group_engine.Mounts
pub use Rattle.record_laws.specs.group_engine.NextRecords
pub use Rattle.record_laws.specs.group_engine.Own
pub use Rattle.record_laws.specs.group_engine.Pending
pub use Rattle.record_laws.specs.group_engine.Searches
pub mod declared
