-- What crates above cite of the proofs of `alias_tree`.
pub use Rattle.catalog.proofs.alias_tree.Keeping
pub use Rattle.catalog.proofs.alias_tree.Leading
pub use Rattle.catalog.proofs.alias_tree.Ways
