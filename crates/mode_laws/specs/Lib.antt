pub mod Events
pub mod Statements
pub mod Others
pub mod Coming
