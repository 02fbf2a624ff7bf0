-- The definitions of `staleness_directory` that crates above name.
pub use Rattle.rebalance.specs.staleness_directory.Marks
