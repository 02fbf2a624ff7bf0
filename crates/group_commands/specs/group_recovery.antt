-- The definitions of `group_recovery` that crates above name.
pub use Rattle.group_recovery.specs.Mounting
