-- The definitions of `mounted_groups` that crates above name.
pub use Rattle.disk_commands.specs.mounted_groups.Creating
pub use Rattle.disk_commands.specs.mounted_groups.Found
