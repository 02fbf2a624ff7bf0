-- The definitions of `disk_joining` that crates above name.
pub use Rattle.disk_joining.specs.Taking
