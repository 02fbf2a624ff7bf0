pub mod Command
pub mod Misuses
pub mod Notices
pub mod Paths
pub mod Rows
