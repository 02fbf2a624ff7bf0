pub mod Redundancies
pub mod Said
pub mod Readers
pub mod Rows
pub mod Answers
pub mod Choices
