-- The types of `status_register` that crates above name.
pub use Rattle.status_register.specs.declared.member
