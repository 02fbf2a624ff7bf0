-- The definitions of `alias_edits` that crates above name.
pub use Rattle.plan_records.specs.alias_edits.Edits
pub use Rattle.plan_records.specs.alias_edits.Filing
