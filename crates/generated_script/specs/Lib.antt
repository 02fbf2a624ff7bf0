pub mod Lines
pub mod Source
pub mod Statements
