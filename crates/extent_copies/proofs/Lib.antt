pub mod Verdicts
pub mod Counting
pub mod Groups
pub mod FullExtents
pub mod Templates
