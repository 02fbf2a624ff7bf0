pub mod Readings
pub mod Rules
pub mod Changes
pub mod EntryChanges
