-- What crates above cite of the proofs of `template_directory`.
pub use Rattle.plan_records.proofs.template_directory.ReadingLaws
