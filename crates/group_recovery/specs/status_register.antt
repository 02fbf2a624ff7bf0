-- The definitions of `status_register` that crates above name.
pub mod declared
