-- The definitions of `page_map` that crates above name.
pub use Rattle.catalog_units.specs.page_map.Changes
pub use Rattle.catalog_units.specs.page_map.Contents
pub use Rattle.catalog_units.specs.page_map.Listing
pub use Rattle.catalog_units.specs.page_map.Tables
