-- The definitions of `disk_directory` that crates above name.
pub use Rattle.plan_records.specs.disk_directory.Disks
