-- The definitions of `alias_tree` that crates above name.
pub use Rattle.alias_edits.specs.alias_tree.Faults
pub use Rattle.alias_edits.specs.alias_tree.Nodes
pub use Rattle.alias_edits.specs.alias_tree.Numbers
pub use Rattle.alias_edits.specs.alias_tree.Opening
pub use Rattle.alias_edits.specs.alias_tree.Spelling
pub use Rattle.alias_edits.specs.alias_tree.Trees
