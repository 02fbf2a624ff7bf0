-- What crates above cite of the proofs of `catalog`.
pub use Rattle.catalog.proofs.EditLaws
pub use Rattle.catalog.proofs.ExtentCounts
pub use Rattle.catalog.proofs.MarkPlans
pub use Rattle.catalog.proofs.MovePlans
pub use Rattle.catalog.proofs.NumberedEntries
