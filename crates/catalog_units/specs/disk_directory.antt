-- The definitions of `disk_directory` that crates above name.
pub use Rattle.catalog_tables.specs.disk_directory.Disks
