-- The definitions of `page_map` that crates above name.
pub use Rattle.page_map.specs.Changes
pub use Rattle.page_map.specs.Contents
pub use Rattle.page_map.specs.Listing
pub use Rattle.page_map.specs.Tables
