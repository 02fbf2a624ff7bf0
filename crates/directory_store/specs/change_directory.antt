-- The definitions of `change_directory` that crates above name.
pub use Rattle.change_directory.specs.Changes
pub use Rattle.change_directory.specs.Formatting
pub use Rattle.change_directory.specs.Places
pub use Rattle.change_directory.specs.StoreLaws
pub mod declared
