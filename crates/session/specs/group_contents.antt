-- The definitions of `group_contents` that crates above name.
pub use Rattle.group_contents.specs.Creating
pub use Rattle.group_contents.specs.Files
pub use Rattle.group_contents.specs.Reading
pub use Rattle.group_contents.specs.Works
pub use Rattle.group_contents.specs.Writing
pub mod declared
