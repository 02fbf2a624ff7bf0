pub mod Script
pub mod Scanning
pub mod Examples
