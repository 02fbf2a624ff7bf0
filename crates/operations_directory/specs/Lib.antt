pub mod Operations
pub mod Readings
pub mod Changing
