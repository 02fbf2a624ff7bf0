-- What crates above cite of the proofs of `session`.
pub use Rattle.disk_commands.proofs.session.Below
pub use Rattle.disk_commands.proofs.session.Knowing
