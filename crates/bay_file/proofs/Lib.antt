pub mod Untold
pub mod PathFaults
