pub mod Shapes
pub mod OneStep
pub mod HeaderBytes
pub mod Settling
pub mod OneMoreLook
pub mod Departing
pub mod HeaderPuts
