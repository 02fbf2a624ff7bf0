-- The definitions of `new_groups` that crates above name.
pub mod declared
