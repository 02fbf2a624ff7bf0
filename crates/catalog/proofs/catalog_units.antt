-- What crates above cite of the proofs of `catalog_units`.
pub use Rattle.plan_records.proofs.catalog_units.ResizedUnits
