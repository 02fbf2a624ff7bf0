pub mod Paths
pub mod Places
pub mod Rows
pub mod Finds
pub mod Lists
pub mod Usage
pub mod catalog
pub mod group_of
