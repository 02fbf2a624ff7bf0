-- The definitions of `alias_tree` that crates above name.
pub use Rattle.alias_tree.specs.Faults
pub use Rattle.alias_tree.specs.Nodes
pub use Rattle.alias_tree.specs.Numbers
pub use Rattle.alias_tree.specs.Opening
pub use Rattle.alias_tree.specs.Spelling
pub use Rattle.alias_tree.specs.Trees
