-- The definitions of `disk_directory` that crates above name.
pub use Rattle.mounted_groups.specs.disk_directory.Disks
