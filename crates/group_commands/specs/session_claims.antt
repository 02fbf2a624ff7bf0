-- The definitions of `session_claims` that crates above name.
pub use Rattle.session.specs.session_claims.Claims
