pub mod Looks
pub mod Headers
pub mod disk_forming
