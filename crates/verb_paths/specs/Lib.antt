pub mod Patterns
pub mod Slashes
