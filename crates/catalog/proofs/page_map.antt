-- What crates above cite of the proofs of `page_map`.
pub use Rattle.plan_records.proofs.page_map.Keys
