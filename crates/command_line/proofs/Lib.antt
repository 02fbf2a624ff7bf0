pub mod Finds
pub mod Readings
pub mod Takings
pub mod Texts
