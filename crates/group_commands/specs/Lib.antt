pub mod Mounting
pub mod group_recovery
pub mod session_claims
