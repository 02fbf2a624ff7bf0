-- The definitions of `session_claims` that crates above name.
pub use Rattle.session_claims.specs.Claims
pub use Rattle.session_claims.specs.Found
pub use Rattle.session_claims.specs.Laws
