-- The definitions of `asm_world` that crates above name.
pub use Rattle.plan_records.specs.asm_world.Files
