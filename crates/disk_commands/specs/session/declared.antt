-- The types of `session` that crates above name.
pub use Rattle.session.specs.declared.reply
