-- The types of `status_register` that crates above name.
pub use Rattle.record_laws.specs.status_register.declared.member
