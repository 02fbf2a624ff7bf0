-- The types of `group_engine` that crates above name.
pub use Rattle.group_pieces.specs.group_engine.declared.access
pub use Rattle.group_pieces.specs.group_engine.declared.attached
pub use Rattle.group_pieces.specs.group_engine.declared.flight
