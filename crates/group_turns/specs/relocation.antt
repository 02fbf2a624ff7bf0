-- The definitions of `relocation` that crates above name.
pub use Rattle.relocation.specs.Shortfalls
pub use Rattle.relocation.specs.Slices
pub mod declared
