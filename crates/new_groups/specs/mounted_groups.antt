-- The definitions of `mounted_groups` that crates above name.
pub use Rattle.mounted_groups.specs.FirstParts
pub use Rattle.mounted_groups.specs.Holding
pub use Rattle.mounted_groups.specs.Mounting
