-- What crates above cite of the proofs of `resync`.
pub use Rattle.group_turns.proofs.resync.Chains
