-- What crates above cite of the proofs of `disk_images`.
pub use Rattle.disk_images.proofs.Departing
