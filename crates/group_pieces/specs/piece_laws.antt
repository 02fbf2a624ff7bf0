-- The definitions of `piece_laws` that crates above name.
pub use Rattle.piece_laws.specs.Walks
