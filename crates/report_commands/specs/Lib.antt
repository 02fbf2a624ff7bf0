pub mod Going
pub mod GroupRows
pub mod Listed
pub mod Told
