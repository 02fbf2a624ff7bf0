-- The definitions of `alias_tree` that crates above name.
pub use Rattle.alias_tree.specs.Nodes
