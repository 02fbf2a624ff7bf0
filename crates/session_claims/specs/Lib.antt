pub mod Claims
pub mod Laws
pub mod Found
pub mod edit_laws
pub mod mounted_groups
pub mod group_files
pub mod group_recovery
