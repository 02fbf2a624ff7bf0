-- The definitions of `session` that crates above name.
pub use Rattle.disk_commands.specs.session.Claims
pub use Rattle.disk_commands.specs.session.Effects
pub use Rattle.disk_commands.specs.session.Meaning
pub use Rattle.disk_commands.specs.session.Proved
pub use Rattle.disk_commands.specs.session.Quiet
pub use Rattle.disk_commands.specs.session.Sessions
