pub mod Chains
pub mod Leaving
pub mod Shortfalls
pub mod resync
