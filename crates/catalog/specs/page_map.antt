-- The definitions of `page_map` that crates above name.
pub use Rattle.plan_records.specs.page_map.Changes
pub use Rattle.plan_records.specs.page_map.Listing
pub use Rattle.plan_records.specs.page_map.Tables
