-- The definitions of `alias_tree` that crates above name.
pub use Rattle.plan_records.specs.alias_tree.Faults
pub use Rattle.plan_records.specs.alias_tree.Nodes
pub use Rattle.plan_records.specs.alias_tree.Numbers
pub use Rattle.plan_records.specs.alias_tree.Trees
