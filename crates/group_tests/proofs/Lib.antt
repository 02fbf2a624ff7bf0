pub mod Commits
pub mod ThreePlaces
pub mod Taking
