pub mod Mapped
pub mod Statements
pub mod Others
pub mod Coming
