pub mod Choices
pub mod Statements
pub mod Scripts
pub mod Reading
