pub mod Asking
pub mod NameEdits
