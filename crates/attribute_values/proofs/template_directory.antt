-- What crates above cite of the proofs of `template_directory`.
pub use Rattle.template_directory.proofs.ChangeLaws
pub use Rattle.template_directory.proofs.ReadingLaws
