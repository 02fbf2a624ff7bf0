-- The definitions of `alias_tree` that crates above name.
pub use Rattle.catalog.specs.alias_tree.Nodes
pub use Rattle.catalog.specs.alias_tree.Numbers
pub use Rattle.catalog.specs.alias_tree.Trees
