-- The definitions of `status_table` that crates above name.
pub use Rattle.status_table.specs.Changes
