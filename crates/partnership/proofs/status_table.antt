-- What crates above cite of the proofs of `status_table`.
pub use Rattle.status_table.proofs.Allowed
