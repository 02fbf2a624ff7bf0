-- A slot of a disk may be used, and is put.
use Rattle.std.proofs.Common.{◌≡◌, ◌⊎◌, inl, inr, ⊎_elim, ℕ, ◌+◌, ◌*◌, ◌%◌, ◌≤◌, List, sym, subst, ◌∙◌, arith}
use Rattle.bay.specs.Image.{Image, Range, Same, ChangesOnly}
use Rattle.bay.specs.State.{BayState, KeepsAttached, size_of}
use Rattle.bay.specs.Moments.{Within, Joins}
use Rattle.bay.proofs.Images.{changes-within}
use Rattle.bay.proofs.OneCall.{Follows}
use Rattle.body_slot.specs.Slot.{IsUsablePlace, PlaceOf, MayPut, HasPut}
pub use Rattle.body_slot.proofs.Sectors.{block_sectors, short_sector}
use Rattle.status_register.specs.Places.{gated_block_at, HasSlots}
use Rattle.status_register.specs.Slots.{FoundNextGate, MayFill, Fills, MayPutNext, PutsNext}
use Rattle.status_register.proofs.Telling.{SameBytes}
use Rattle.status_register.proofs.Shown.{same_shown}

-- whole blocks are whole sectors
pub usable : {state : BayState} {slot sector : ℕ} (gate : ℕ) → HasSlots state slot sector → gate ≤ 8 → IsUsablePlace state slot (gated_block_at gate sector)
usable {state} {slot} {sector} gate has small =
    let short : sector ≤ 4096 = short_sector sector has.sector_size in
    let long : 40960 ≤ size_of state slot = has.long in
    let gate_end : gate * 4096 + sector ≤ size_of state slot = omega arith in
    let body_end : (gate + 1) * 4096 + 4096 ≤ size_of state slot = omega arith in
    let before : gate * 4096 + sector ≤ (gate + 1) * 4096 = omega arith in
    record {
      attached = has.attached;
      sector = has.sector_size;
      gate_inside = gate_end;
      body_inside = body_end;
      gate_sectors = block_sectors gate sector has.sector_size;
      body_sectors = block_sectors (gate + 1) sector has.sector_size;
      len_sectors = block_sectors 1 sector has.sector_size;
      apart = inl before;
    }

pub still_slots : {old new : BayState} {slot sector : ℕ} → HasSlots old slot sector → KeepsAttached old new → HasSlots new slot sector
still_slots {old} {new} {slot} {sector} has keeps = record {
  attached = rw (keeps.same slot) has.attached;
  sector_size = has.sector_size;
  long = rw (keeps.same slot) has.long;
}

-- ---- puts

module _ (gate slot sector : ℕ) (body : List ℕ) (short : sector ≤ 4096) where
  in_blocks : (x y : Image) → ChangesOnly (PlaceOf (gated_block_at gate sector) slot) x y → ChangesOnly (Range slot (gate * 4096) (2 * 4096)) x y
  in_blocks x y step = changes-within (Range slot (gate * 4096) (2 * 4096)) (PlaceOf (gated_block_at gate sector) slot) x y
      (λ s k inside. ⊎_elim (λ in_gate. (in_gate.0, in_gate.1, omega (arith, in_gate.2, short))) (λ in_body. (in_body.0, omega (arith, in_body.1), omega (arith, in_body.2))) inside) step

  pub may_fill : Within (MayPut (gated_block_at gate sector) slot body) (MayFill gate slot body)
  may_fill x y step = record { shows = step.shows; elsewhere = in_blocks x y step.elsewhere }

  pub fills : Within (HasPut (gated_block_at gate sector) slot body) (Fills gate slot body)
  fills x y step = record { shows = step.shows; elsewhere = in_blocks x y step.elsewhere }

module _ (gate_of : ℕ → Image → ℕ) (slot : ℕ) (body : List ℕ) where
  -- disks that are as they were are on the way
  pub same_puts : Within Same (MayPutNext gate_of slot body)
  same_puts x y same = record {
    shows = inl (same_shown slot (gate_of slot x) x y (λ k. same.byte slot k));
    elsewhere = record { size = same.size; byte = λ s k outside. same.byte s k };
  }

  module _ (gate : ℕ) (depends : (x y : Image) → SameBytes slot x y → gate_of slot y ≡ gate_of slot x) where
    gate_before : (x y : Image) → FoundNextGate (gate_of slot) gate x y → gate_of slot x ≡ gate
    gate_before x y found = sym (depends x y (λ k. found.same.byte slot k)) ∙ found.gate_is

    from_same : (g : ℕ) (x y z : Image) → Same x y → ChangesOnly (Range slot (g * 4096) (2 * 4096)) y z → ChangesOnly (Range slot (g * 4096) (2 * 4096)) x z
    from_same g x y z same step = record { size = λ s. step.size s ∙ same.size s; byte = λ s k outside. step.byte s k outside ∙ same.byte s k }

    filling : (x y z : Image) → Same x y → MayFill gate slot body y z → MayFill gate slot body x z
    filling x y z same step = record {
      shows = ⊎_elim (λ kept. inl (kept ∙ same_shown slot gate x y (λ k. same.byte slot k))) (λ other. inr other) step.shows;
      elsewhere = from_same gate x y z same step.elsewhere;
    }

    pub may_put_next : Joins (FoundNextGate (gate_of slot) gate) (MayFill gate slot body) (MayPutNext gate_of slot body)
    may_put_next x y z found step = subst (λ (g : ℕ). MayFill g slot body x z) (sym (gate_before x y found)) (filling x y z found.same step)

    pub puts_next : Joins (FoundNextGate (gate_of slot) gate) (Fills gate slot body) (PutsNext gate_of slot body)
    puts_next x y z found step = subst (λ (g : ℕ). Fills g slot body x z) (sym (gate_before x y found))
        (record { shows = step.shows; elsewhere = from_same gate x y z found.same step.elsewhere })

    -- the gate is found, and then the slot is filled
    pub put_follows : Follows Same (FoundNextGate (gate_of slot) gate) (MayFill gate slot body) (Fills gate slot body) (MayPutNext gate_of slot body) (PutsNext gate_of slot body)
    put_follows = record { starts = same_puts; goes = may_put_next; ends = puts_next }
