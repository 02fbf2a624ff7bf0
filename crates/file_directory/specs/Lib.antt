pub mod Files
pub mod Changing
pub mod Entries
