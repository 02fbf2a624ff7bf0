-- The types of `group_recovery` that crates above name.
pub use Rattle.group_recovery.specs.declared.finding
pub use Rattle.group_recovery.specs.declared.quorum
