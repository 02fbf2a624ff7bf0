-- The definitions of `group_recovery` that crates above name.
pub use Rattle.group_recovery.specs.Founds
pub use Rattle.group_recovery.specs.Mounting
pub use Rattle.group_recovery.specs.NamedCopies
pub use Rattle.group_recovery.specs.Recovered
pub use Rattle.group_recovery.specs.Recovering
pub use Rattle.group_recovery.specs.Verdicts
pub use Rattle.group_recovery.specs.Writing
pub mod declared
