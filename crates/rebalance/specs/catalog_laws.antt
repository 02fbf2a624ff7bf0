-- The definitions of `catalog_laws` that crates above name.
pub use Rattle.catalog_laws.specs.Blocks
