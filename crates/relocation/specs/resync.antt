-- The definitions of `resync` that crates above name.
pub mod declared
