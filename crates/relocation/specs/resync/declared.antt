-- The types of `resync` that crates above name.
pub use Rattle.resync.specs.declared.slice
