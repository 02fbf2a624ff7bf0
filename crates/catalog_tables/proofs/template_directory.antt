-- What crates above cite of the proofs of `template_directory`.
pub use Rattle.template_directory.proofs.Listing
