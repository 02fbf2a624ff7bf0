pub mod Copying
pub mod HostCauses
pub mod Reading
pub mod Writing
