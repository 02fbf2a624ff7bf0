pub mod Wholes
pub mod Puts
pub mod Texts
