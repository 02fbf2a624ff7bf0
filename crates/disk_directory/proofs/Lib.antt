pub mod DiskLaws
pub mod Names
