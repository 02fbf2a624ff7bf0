pub mod Free
pub mod Changes
pub mod Tables
pub mod Applying
pub mod Contents
pub mod Loaded
pub mod Listing
pub mod allocator
