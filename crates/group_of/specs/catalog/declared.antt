-- The types of `catalog` that crates above name.
pub use Rattle.catalog_laws.specs.catalog.declared.new_file
