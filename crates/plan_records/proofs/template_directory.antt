-- What crates above cite of the proofs of `template_directory`.
pub use Rattle.attribute_values.proofs.template_directory.ChangeLaws
pub use Rattle.attribute_values.proofs.template_directory.ReadingLaws
