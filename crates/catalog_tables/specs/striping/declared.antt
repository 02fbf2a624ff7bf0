-- The types of `striping` that crates above name.
pub use Rattle.partnership.specs.striping.declared.layout
