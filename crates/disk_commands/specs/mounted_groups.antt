-- The definitions of `mounted_groups` that crates above name.
pub use Rattle.session.specs.mounted_groups.Creating
pub use Rattle.session.specs.mounted_groups.Found
