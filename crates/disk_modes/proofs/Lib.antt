pub mod Keeping
pub mod Steps
pub mod NextRecords
pub mod Reasons
pub mod Entries
mod Ends
pub mod Effects
pub mod Naming
pub mod Drops
pub mod Found
pub mod Resized
pub mod Held
pub mod Getting
pub mod Checked
pub mod Sized
pub mod Expiring
