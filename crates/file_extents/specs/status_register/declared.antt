-- The types of `status_register` that crates above name.
pub use Rattle.group_pieces.specs.status_register.declared.member
