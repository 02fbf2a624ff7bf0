pub mod Tables
pub mod Readings
pub mod Meant
pub mod Changing
pub mod asm_base
pub mod asm_formats
