-- The definitions of `disk_directory` that crates above name.
pub use Rattle.catalog_units.specs.disk_directory.Disks
