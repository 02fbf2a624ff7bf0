-- The types of `new_groups` that crates above name.
pub use Rattle.new_groups.specs.declared.asked
