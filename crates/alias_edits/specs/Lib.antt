pub mod Edits
pub mod Filing
pub mod alias_tree
