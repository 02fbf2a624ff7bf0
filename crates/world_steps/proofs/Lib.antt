pub mod EditCommands
pub mod Said
pub mod Steps
pub mod Tests
pub mod Told
pub mod Runs
