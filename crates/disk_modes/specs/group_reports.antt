-- The definitions of `group_reports` that crates above name.
pub use Rattle.group_reports.specs.Disks
pub use Rattle.group_reports.specs.Extents
pub use Rattle.group_reports.specs.Listing
pub use Rattle.group_reports.specs.Places
