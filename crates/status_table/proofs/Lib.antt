pub mod ClaimLaws
pub mod Allowed
pub mod Laws
pub mod Kept
pub mod Steps
pub mod Inserted
