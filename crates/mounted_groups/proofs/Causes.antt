-- Why a creation is refused.
use Rattle.std.proofs.Common.{◌≡◌, inr, ℕ, ◌≤◌, List, Option, sym, ap, subst, ◌∙◌, arith}
use Rattle.std.specs.Option.{option_map}
use Rattle.std.proofs.lemmas.Option.{none-some}
use Rattle.bay.specs.State.{BayState}
use Rattle.asm_group.specs.Names.{Bytes}
use Rattle.asm_group.specs.Refusal as r
use Rattle.asm_formats.specs.Header.{Header}
use Rattle.mounted_groups.specs.Found.{Counts, counts_of, IsEarly, IsSlotOfPath, RefusalCause}
use Rattle.mounted_groups.specs.Probes.{IsShown, IsUnusable, IsUsableProbe}
use Rattle.mounted_groups.specs.Ready.{HasRoom, IsFormFault}
use Rattle.mounted_groups.specs.declared.find.Probe.{Probe}

module _ (paths : List Bytes) (path disk : Bytes) (slot : ℕ) (is_slot : IsSlotOfPath paths path slot) (s t : Counts) where
  -- a disk that can't be given to the group is the cause
  pub unusable_cause : (p : Probe) → IsShown slot p s t → (refusal : r.Refusal) → IsUnusable path disk p refusal → RefusalCause paths path refusal s t
  unusable_cause p shown (r.NoDisk text) why = (why.0, inr (slot, is_slot, subst (λ (q : Probe). IsShown slot q s t) why.1 shown))
  unusable_cause p shown (r.WriteFault text) why =
      record { slot = slot; below = is_slot.below; rose = (subst (λ (q : Probe). IsShown slot q s t) why.2 shown).1 }
  unusable_cause p shown (r.DiskTaken text) why = (
    why.0,
    record {
      slot = slot;
      is_slot = is_slot;
      header = λ now holds image was none.
          absurd (none-some why.2 (sym (ap (λ (o : Option Header). option_map (λ (h : Header). h.id) o) none) ∙ (subst (λ (q : Probe). IsShown slot q s t) why.3 shown).1 now holds image was));
    },
  )
  unusable_cause p shown (r.TooSmall text need) why = (
    why.1,
    record {
      slot = slot;
      below = is_slot.below;
      size = why.2;
      attached = (subst (λ (q : Probe). IsShown slot q s t) why.3 shown).0;
      small = omega (arith, why.1, why.4);
    },
  )
  unusable_cause p shown r.NoMemory why = tt
  unusable_cause p shown other why = absurd why

  -- a failed disk is the cause
  pub form_cause : (m : Counts) → s.faults slot ≤ m.faults slot → (refusal : r.Refusal) → IsFormFault slot disk refusal m t → RefusalCause paths path refusal s t
  form_cause m le (r.WriteFault text) why = record { slot = slot; below = is_slot.below; rose = omega (arith, le, why.1) }
  form_cause m le r.NoMemory why = tt
  form_cause m le other why = absurd why

-- a disk that can be given to the group has room
pub has_room : (s t : BayState) (slot units : ℕ) (p : Probe) → IsShown slot p (counts_of s) (counts_of t) → IsUsableProbe p units → HasRoom slot units t
has_room s t slot units p shown usable =
    record { size = usable.size; attached = (subst (λ (q : Probe). IsShown slot q (counts_of s) (counts_of t)) usable.free shown).0; inside = usable.inside }

-- want of memory is a cause at any point, and never an early one
pub memory_cause : (paths : List Bytes) (path : Bytes) (s t : Counts) (refusal : r.Refusal) → refusal ≡ r.NoMemory → RefusalCause paths path refusal s t
memory_cause paths path s t refusal is = subst (λ (q : r.Refusal). RefusalCause paths path q s t) (sym is) tt

pub memory_is_late : (refusal : r.Refusal) → refusal ≡ r.NoMemory → IsEarly refusal → ⊥
memory_is_late refusal is early = subst IsEarly is early
