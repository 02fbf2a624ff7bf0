-- The definitions of `disk_directory` that crates above name.
pub use Rattle.disk_directory.specs.Disks
