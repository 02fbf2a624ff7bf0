-- The definitions of `disk_forming` that crates above name.
pub use Rattle.disk_forming.specs.Gates
pub use Rattle.disk_forming.specs.Places
