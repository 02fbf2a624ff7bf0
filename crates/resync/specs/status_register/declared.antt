-- The types of `status_register` that crates above name.
pub use Rattle.file_extents.specs.status_register.declared.member
