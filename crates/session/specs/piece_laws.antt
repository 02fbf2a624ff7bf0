-- The definitions of `piece_laws` that crates above name.
pub use Rattle.group_contents.specs.piece_laws.FileSpans
