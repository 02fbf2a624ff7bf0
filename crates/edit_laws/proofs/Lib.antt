pub mod Leading
pub mod Spared
pub mod Beside
pub mod WithAll
pub mod OfTables
