-- The types of `catalog` that crates above name.
pub use Rattle.rebalance.specs.catalog.declared.new_file
