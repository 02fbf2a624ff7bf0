-- The definitions of `mounted_groups` that crates above name.
pub use Rattle.mounted_groups.specs.Creating
pub use Rattle.mounted_groups.specs.FirstParts
pub use Rattle.mounted_groups.specs.Found
pub use Rattle.mounted_groups.specs.Holding
pub use Rattle.mounted_groups.specs.Leaving
pub use Rattle.mounted_groups.specs.MountCauses
pub use Rattle.mounted_groups.specs.Mounting
