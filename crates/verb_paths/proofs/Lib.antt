pub mod Matching
pub mod Walking
