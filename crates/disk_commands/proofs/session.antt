-- What crates above cite of the proofs of `session`.
pub use Rattle.session.proofs.Below
pub use Rattle.session.proofs.Knowing
pub use Rattle.session.proofs.Languages
