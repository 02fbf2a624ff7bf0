-- The types of `group_contents` that crates above name.
pub use Rattle.group_contents.specs.declared.opening
pub use Rattle.group_contents.specs.declared.work
