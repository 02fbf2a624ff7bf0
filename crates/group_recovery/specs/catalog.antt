-- The definitions of `catalog` that crates above name.
pub use Rattle.catalog.specs.Plans
