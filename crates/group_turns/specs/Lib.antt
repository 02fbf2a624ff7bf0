pub mod Slices
pub mod Turns
pub mod group_reports
pub mod relocation
