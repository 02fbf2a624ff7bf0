pub mod Disks
pub mod DiskEntries
