pub mod Slices
pub mod Endings
pub mod Shortfalls
pub mod resync
