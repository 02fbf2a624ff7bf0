-- The definitions of `disk_directory` that crates above name.
pub use Rattle.catalog.specs.disk_directory.Disks
