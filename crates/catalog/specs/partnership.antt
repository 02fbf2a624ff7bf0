-- The definitions of `partnership` that crates above name.
pub use Rattle.plan_records.specs.partnership.UnitsOf
