pub mod Waits
pub mod session
