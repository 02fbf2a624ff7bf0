-- The types of `striping` that crates above name.
pub use Rattle.striping.specs.declared.layout
