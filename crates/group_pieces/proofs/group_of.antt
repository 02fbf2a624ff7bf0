-- What crates above cite of the proofs of `group_of`.
pub use Rattle.record_laws.proofs.group_of.Describes
pub use Rattle.record_laws.proofs.group_of.Leading
pub use Rattle.record_laws.proofs.group_of.Refusals
