-- What crates above cite of the proofs of `alias_edits`.
pub use Rattle.plan_records.proofs.alias_edits.Growing
