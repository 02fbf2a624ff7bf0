-- The definitions of `alias_tree` that crates above name.
pub use Rattle.catalog_tables.specs.alias_tree.Nodes
