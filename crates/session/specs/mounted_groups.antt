-- The definitions of `mounted_groups` that crates above name.
pub use Rattle.session_claims.specs.mounted_groups.Creating
pub use Rattle.session_claims.specs.mounted_groups.FirstParts
pub use Rattle.session_claims.specs.mounted_groups.Found
pub use Rattle.session_claims.specs.mounted_groups.Holding
pub use Rattle.session_claims.specs.mounted_groups.Leaving
pub use Rattle.session_claims.specs.mounted_groups.MountCauses
pub use Rattle.session_claims.specs.mounted_groups.Mounting
