pub mod ExtentConditions
pub mod FilesMade
pub mod NewDisks
pub mod NewFiles
pub mod Planned
