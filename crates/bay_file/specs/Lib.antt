pub mod FileBays
pub mod FileSound
pub mod OneLine
pub mod Opening
pub mod Outside
pub mod PathFaults
pub mod Places
pub mod Slots
