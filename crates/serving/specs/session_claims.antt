-- The definitions of `session_claims` that crates above name.
pub use Rattle.group_commands.specs.session_claims.Claims
