-- What crates above cite of the proofs of `status_register`.
pub use Rattle.status_register.proofs.Elsewhere
pub use Rattle.status_register.proofs.Reaching
