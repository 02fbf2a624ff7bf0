pub mod Waits
pub mod mounted_groups
pub mod group_engine
pub mod group_turns
pub mod session
