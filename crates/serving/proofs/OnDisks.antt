-- The work of CREATE DISK.
use Rattle.std.proofs.Common.{◌≡◌, ◌∙◌, sym, ℕ, List, Option, Some, None}
use Rattle.bay.specs.State.{BayState}
use Rattle.disk_commands.specs.session.OnDisks.{IdlingLeaves, MakingDoes}

pub making : (old new : BayState) → MakingDoes old new
making old new paths path slot size is attached ends = record {
  slot = slot;
  is_slot = is;
  attached = attached;
  zeros = λ image told. let h = ends.held image told in record { size = h.2.size; zeros = h.2.zeros };
}

none-some : (x : ℕ) → None ≡ Some x → ⊥
none-some x e = absurd cc

pub idling : (old new : BayState) → IdlingLeaves old new
idling old new paths path size none done = none-some size (sym (none done.slot done.is_slot) ∙ done.attached)
