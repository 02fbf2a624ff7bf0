-- The definitions of `session` that crates above name.
pub use Rattle.session.specs.Claims
pub use Rattle.session.specs.Desks
pub use Rattle.session.specs.Effects
pub use Rattle.session.specs.Families
pub use Rattle.session.specs.Meaning
pub use Rattle.session.specs.MeaningLaws
pub use Rattle.session.specs.Naming
pub use Rattle.session.specs.OnDisks
pub use Rattle.session.specs.Proved
pub use Rattle.session.specs.Quiet
pub use Rattle.session.specs.Sessions
pub use Rattle.session.specs.Views
pub mod declared
