-- The types of `asm_group` that crates above name.
pub use Rattle.asm_group.specs.declared.Stripe
