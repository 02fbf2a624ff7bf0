-- What crates above cite of the proofs of `alias_tree`.
pub use Rattle.plan_records.proofs.alias_tree.Keeping
pub use Rattle.plan_records.proofs.alias_tree.Leading
pub use Rattle.plan_records.proofs.alias_tree.Rules
pub use Rattle.plan_records.proofs.alias_tree.Ways
