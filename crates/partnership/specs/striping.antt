-- The definitions of `striping` that crates above name.
pub use Rattle.striping.specs.Pieces
pub mod declared
