pub mod Extents
pub mod Faults
pub mod Laws
pub mod Changing
