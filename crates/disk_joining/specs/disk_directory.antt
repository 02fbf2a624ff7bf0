-- The definitions of `disk_directory` that crates above name.
pub use Rattle.new_groups.specs.disk_directory.Disks
