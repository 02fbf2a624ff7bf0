-- The types of `asm_group` that crates above name.
pub use Rattle.asm_group.specs.declared.GroupKind
pub use Rattle.asm_group.specs.declared.Mode
pub use Rattle.asm_group.specs.declared.NodeKind
pub use Rattle.asm_group.specs.declared.Stripe
