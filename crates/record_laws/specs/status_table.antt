-- The definitions of `status_table` that crates above name.
pub use Rattle.status_register.specs.status_table.Changes
