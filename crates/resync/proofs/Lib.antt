pub mod Chains
pub mod Marks
pub mod catalog_tables
pub mod file_extents
pub mod group_engine
