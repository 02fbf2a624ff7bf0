-- The definitions of `striping` that crates above name.
pub use Rattle.partnership.specs.striping.Pieces
pub mod declared
