-- The definitions of `disk_directory` that crates above name.
pub use Rattle.group_recovery.specs.disk_directory.Disks
