-- The definitions of `status_register` that crates above name.
pub use Rattle.status_register.specs.Elsewhere
pub use Rattle.status_register.specs.Surveys
