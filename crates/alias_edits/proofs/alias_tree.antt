-- What crates above cite of the proofs of `alias_tree`.
pub use Rattle.alias_tree.proofs.IndexLaws
pub use Rattle.alias_tree.proofs.Keeping
pub use Rattle.alias_tree.proofs.Leading
pub use Rattle.alias_tree.proofs.OpenLaws
pub use Rattle.alias_tree.proofs.Readings
pub use Rattle.alias_tree.proofs.Rules
pub use Rattle.alias_tree.proofs.Ways
