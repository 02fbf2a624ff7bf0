pub mod Cutting
pub mod Going
pub mod Looking
