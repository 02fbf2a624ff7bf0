pub mod Groups
pub mod Describing
pub mod Edits
pub mod Files
pub mod alias_edits
pub mod catalog
pub mod operations_directory
