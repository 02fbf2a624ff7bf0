pub mod Disks
pub mod Machine
pub mod Laws
pub mod Mounts
pub mod Rows
