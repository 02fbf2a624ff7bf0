-- The definitions of `partnership` that crates above name.
pub use Rattle.partnership.specs.Rows
pub use Rattle.partnership.specs.UnitsOf
