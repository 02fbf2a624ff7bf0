-- The definitions of `group_recovery` that crates above name.
pub use Rattle.mounted_groups.specs.group_recovery.Mounting
