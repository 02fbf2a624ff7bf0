-- The definitions of `disk_images` that crates above name.
pub use Rattle.disk_images.specs.Headers
pub use Rattle.disk_images.specs.Looks
pub mod declared
