pub mod Extents
pub mod Usable
pub mod NewFiles
pub mod partnership
