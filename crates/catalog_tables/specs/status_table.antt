-- The definitions of `status_table` that crates above name.
pub use Rattle.partnership.specs.status_table.Changes
