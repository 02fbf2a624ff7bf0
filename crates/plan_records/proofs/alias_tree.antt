-- What crates above cite of the proofs of `alias_tree`.
pub use Rattle.alias_edits.proofs.alias_tree.IndexLaws
pub use Rattle.alias_edits.proofs.alias_tree.Keeping
pub use Rattle.alias_edits.proofs.alias_tree.Leading
pub use Rattle.alias_edits.proofs.alias_tree.OpenLaws
pub use Rattle.alias_edits.proofs.alias_tree.Readings
pub use Rattle.alias_edits.proofs.alias_tree.Rules
pub use Rattle.alias_edits.proofs.alias_tree.Ways
