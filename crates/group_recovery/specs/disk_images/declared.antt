-- The types of `disk_images` that crates above name.
pub use Rattle.disk_images.specs.declared.looking
