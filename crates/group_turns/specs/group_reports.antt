-- The definitions of `group_reports` that crates above name.
pub use Rattle.disk_modes.specs.group_reports.Disks
pub use Rattle.disk_modes.specs.group_reports.Extents
pub use Rattle.disk_modes.specs.group_reports.Listing
pub use Rattle.disk_modes.specs.group_reports.Places
