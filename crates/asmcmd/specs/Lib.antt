pub mod Verbs
pub mod Rows
pub mod Exact
pub mod Texts
pub mod Runs
