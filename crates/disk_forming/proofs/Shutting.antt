-- Gates are closed one after the other.
use Rattle.std.proofs.Common.{◌≡◌, ◌≢◌, ◌⊎◌, inl, inr, ⊎_elim, ℕ, ◌+◌, ◌*◌, ◌%◌, ◌<◌, ◌≤◌, false, List, length, get_or, refl, sym, ◌∙◌, ap, subst, arith}
use Rattle.std.specs.Prelude.{◌==◌}
use Rattle.std.proofs.lemmas.Bool.{cases_eq}
use Rattle.bay.specs.Image.{Image, ChangesOnly}
use Rattle.std.specs.Prelude.{zero, suc, Option, IsSome, unwrap_or}
use Rattle.bay.specs.State.{BayState, KeepsAttached, size_of}
use Rattle.bay.proofs.Images.{changes-within, changes-trans}
use Rattle.bay.proofs.OneCall.{Follows}
use Rattle.body_slot.specs.declared.place.Place.{Place}
use Rattle.body_slot.specs.Slot.{IsUsablePlace, GateOf, is_open_in, Closes, MayClose}
pub use Rattle.body_slot.proofs.Sectors.{block_sectors, short_sector, some_sector}
use Rattle.body_slot.proofs.Steps.{shown-shut}
use Rattle.disk_forming.specs.Places.{gated_slot_at, all_gates, other_gates}
use Rattle.asm_formats.specs.Regions.{region_end}
use Rattle.asm_formats.specs.Bytes.{block_size}
use Rattle.disk_forming.specs.Gates.{HasAttachedRegion, GatesOf, ShutsGates, MayCloseAll}

-- whole blocks are whole sectors
-- a slot inside the region may be used
pub usable_slot : {state : BayState} {slot sector dir_blocks : ℕ} (gate blocks : ℕ) → HasAttachedRegion state slot sector dir_blocks → gate + 1 + blocks ≤ region_end dir_blocks
    → IsUsablePlace state slot (gated_slot_at gate blocks sector)
usable_slot {state} {slot} {sector} {dir_blocks} gate blocks has inside =
    let short : sector ≤ 4096 = short_sector sector has.sector_size in
    let region : (14 + 2 * dir_blocks) * 4096 ≤ size_of state slot = has.region in
    let gate_end : gate * 4096 + sector ≤ size_of state slot = omega arith in
    let body_end : (gate + 1) * 4096 + blocks * 4096 ≤ size_of state slot = omega arith in
    let before : gate * 4096 + sector ≤ (gate + 1) * 4096 = omega arith in
    record {
      attached = has.attached;
      sector = has.sector_size;
      gate_inside = gate_end;
      body_inside = body_end;
      gate_sectors = block_sectors gate sector has.sector_size;
      body_sectors = block_sectors (gate + 1) sector has.sector_size;
      len_sectors = block_sectors blocks sector has.sector_size;
      apart = inl before;
    }

-- ---- one gate more

module _ (slot sector : ℕ) (short : sector ≤ 4096) (gates : List ℕ) where
  -- no gate yet
  pub shuts_none : (x : Image) → ShutsGates slot sector 0 gates x x
  shuts_none x = record { are_shut = λ i below. absurd (omega arith); elsewhere = record { size = λ s. refl; byte = λ s k outside. refl } }

  module _ (n : ℕ) (below : n < length gates) where
    abbrev pub gate : ℕ
    gate = get_or gates n 0

    in_gates : (x y : Image) → ChangesOnly (GateOf (gated_slot_at gate 1 sector) slot) x y → ChangesOnly (GatesOf slot sector gates) x y
    in_gates x y step = changes-within (GatesOf slot sector gates) (GateOf (gated_slot_at gate 1 sector) slot) x y (λ s k inside. (n, below, inside)) step

    may_shut_more : (x y z : Image) → ShutsGates slot sector n gates x y → MayClose (gated_slot_at gate 1 sector) slot y z → ChangesOnly (GatesOf slot sector gates) x z
    may_shut_more x y z so_far step = changes-trans (GatesOf slot sector gates) x y z so_far.elsewhere (in_gates y z step.elsewhere)

    shuts_more : (x y z : Image) → ShutsGates slot sector n gates x y → Closes (gated_slot_at gate 1 sector) slot y z → ShutsGates slot sector (n + 1) gates x z
    shuts_more x y z so_far step = record {
      are_shut = λ i under. ⊎_elim
          (λ (here : get_or gates i 0 ≡ gate). ap (λ (g : ℕ). is_open_in (gated_slot_at g 1 sector) slot z) here ∙ shown-shut (gated_slot_at gate 1 sector) slot z step.shows)
          (λ (apart : get_or gates i 0 ≢ gate). stays i apart (⊎_elim (λ (last : i ≡ n). absurd (apart (ap (λ (j : ℕ). get_or gates j 0) last))) (λ (other : i ≢ n). so_far.are_shut i (omega arith)) (cases_eq i n)))
          (cases_eq (get_or gates i 0) gate);
      elsewhere = changes-trans (GatesOf slot sector gates) x y z so_far.elsewhere (in_gates y z step.elsewhere);
    }
      where
        stays : (i : ℕ) → get_or gates i 0 ≢ gate → is_open_in (gated_slot_at (get_or gates i 0) 1 sector) slot y ≡ false → is_open_in (gated_slot_at (get_or gates i 0) 1 sector) slot z ≡ false
        stays i apart shut =
            let other : ℕ = get_or gates i 0 in
            let outside : GateOf (gated_slot_at gate 1 sector) slot slot (other * 4096) → ⊥ = λ inside.
            let low : gate * 4096 ≤ other * 4096 = inside.1 in
            let high : other * 4096 < gate * 4096 + sector = inside.2 in
            apart (omega arith) in
            ap (λ (b : ℕ). b == 165) (step.elsewhere.byte slot (other * 4096) outside) ∙ shut

    -- one gate after those before it
    pub one_more : Follows (ChangesOnly (GatesOf slot sector gates)) (ShutsGates slot sector n gates) (MayClose (gated_slot_at gate 1 sector) slot) (Closes (gated_slot_at gate 1 sector) slot)
        (ChangesOnly (GatesOf slot sector gates)) (ShutsGates slot sector (n + 1) gates)
    one_more = record { starts = λ x y step. step; goes = may_shut_more; ends = shuts_more }

-- the gates behind the header's lie in the region
pub other_gates_inside : (dir_blocks n : ℕ) → 128 ≤ dir_blocks → n < 6 → get_or (other_gates dir_blocks) n 0 + 2 ≤ region_end dir_blocks
other_gates_inside dir_blocks zero long below = omega arith
other_gates_inside dir_blocks (suc zero) long below = omega arith
other_gates_inside dir_blocks (suc (suc zero)) long below = omega arith
other_gates_inside dir_blocks (suc (suc (suc zero))) long below = omega arith
other_gates_inside dir_blocks (suc (suc (suc (suc zero)))) long below = omega arith
other_gates_inside dir_blocks (suc (suc (suc (suc (suc zero))))) long below = omega arith
other_gates_inside dir_blocks (suc (suc (suc (suc (suc (suc n)))))) long below = absurd (omega arith)

-- each of them may be used
pub usable_gate : {state : BayState} {slot sector dir_blocks : ℕ} (n : ℕ) → HasAttachedRegion state slot sector dir_blocks → n < 6 → IsUsablePlace state slot (gated_slot_at (get_or (other_gates dir_blocks) n 0) 1 sector)
usable_gate {dir_blocks = dir_blocks} n has below = usable_slot (get_or (other_gates dir_blocks) n 0) 1 has (omega (arith, other_gates_inside dir_blocks n has.long below))

-- other disks stay attached, and so does the region
pub still_region : {old new : BayState} {slot sector dir_blocks : ℕ} → HasAttachedRegion old slot sector dir_blocks → KeepsAttached old new → HasAttachedRegion new slot sector dir_blocks
still_region {old} {new} {slot} {sector} {dir_blocks} has keeps = record {
  attached = subst IsSome (sym (keeps.same slot)) has.attached;
  sector_size = has.sector_size;
  long = has.long;
  region = subst (λ (o : Option ℕ). region_end dir_blocks * block_size ≤ unwrap_or o 0) (sym (keeps.same slot)) has.region;
}

-- ---- the header's gate first, and then the others

module _ (slot sector dir_blocks : ℕ) (short : sector ≤ 4096) where
  abbrev pub header : Place
  header = gated_slot_at 0 1 sector

  -- a change of the other gates leaves the header's
  header_apart : (k : ℕ) → GatesOf slot sector (other_gates dir_blocks) slot k → k < sector → ⊥
  header_apart k inside low =
      let n : ℕ = inside.0 in
      let place : get_or (other_gates dir_blocks) n 0 * 4096 ≤ k = inside.2.1 in
      let positive : 2 ≤ get_or (other_gates dir_blocks) n 0 = behind n inside.1 in
      absurd (omega arith)
    where
      behind : (n : ℕ) → n < 6 → 2 ≤ get_or (other_gates dir_blocks) n 0
      behind zero below = omega arith
      behind (suc zero) below = omega arith
      behind (suc (suc zero)) below = omega arith
      behind (suc (suc (suc zero))) below = omega arith
      behind (suc (suc (suc (suc zero)))) below = omega arith
      behind (suc (suc (suc (suc (suc zero))))) below = omega arith
      behind (suc (suc (suc (suc (suc (suc n)))))) below = absurd (omega arith)

  header_in : (x y : Image) → ChangesOnly (GateOf header slot) x y → ChangesOnly (GatesOf slot sector (all_gates dir_blocks)) x y
  header_in x y step = changes-within (GatesOf slot sector (all_gates dir_blocks)) (GateOf header slot) x y (λ s k inside. (0, omega arith, inside)) step

  others_in : (x y : Image) → ChangesOnly (GatesOf slot sector (other_gates dir_blocks)) x y → ChangesOnly (GatesOf slot sector (all_gates dir_blocks)) x y
  others_in x y step = changes-within (GatesOf slot sector (all_gates dir_blocks)) (GatesOf slot sector (other_gates dir_blocks)) x y (λ s k inside. (suc inside.0, omega (arith, inside.1), inside.2)) step

  may_close_header : (x y : Image) → MayClose header slot x y → MayCloseAll slot sector dir_blocks x y
  may_close_header x y step = record { order = inl step; elsewhere = header_in x y step.elsewhere }

  -- the header's gate stays shut while the others change
  stays_shut : 0 < sector → (x y z : Image) → Closes header slot x y → ChangesOnly (GatesOf slot sector (other_gates dir_blocks)) y z → is_open_in header slot z ≡ false
  stays_shut some x y z closed step =
      ap (λ (b : ℕ). b == 165) (step.byte slot 0 (λ inside. header_apart 0 inside some)) ∙ shown-shut header slot y closed.shows

  may_close_others : 0 < sector → (x y z : Image) → Closes header slot x y → ChangesOnly (GatesOf slot sector (other_gates dir_blocks)) y z → MayCloseAll slot sector dir_blocks x z
  may_close_others some x y z closed step = record {
    order = inr (stays_shut some x y z closed step);
    elsewhere = changes-trans (GatesOf slot sector (all_gates dir_blocks)) x y z (header_in x y closed.elsewhere) (others_in y z step);
  }

  closes_all : 0 < sector → (x y z : Image) → Closes header slot x y → ShutsGates slot sector 6 (other_gates dir_blocks) y z → ShutsGates slot sector 7 (all_gates dir_blocks) x z
  closes_all some x y z closed step = record {
    are_shut = shut;
    elsewhere = changes-trans (GatesOf slot sector (all_gates dir_blocks)) x y z (header_in x y closed.elsewhere) (others_in y z step.elsewhere);
  }
    where
      shut : (i : ℕ) → i < 7 → is_open_in (gated_slot_at (get_or (all_gates dir_blocks) i 0) 1 sector) slot z ≡ false
      shut zero below = stays_shut some x y z closed step.elsewhere
      shut (suc i) below = step.are_shut i (omega arith)

  -- the header's gate, and then the others
  pub header_then_others : 0 < sector → Follows (MayClose header slot) (Closes header slot) (ChangesOnly (GatesOf slot sector (other_gates dir_blocks))) (ShutsGates slot sector 6 (other_gates dir_blocks))
      (MayCloseAll slot sector dir_blocks) (ShutsGates slot sector 7 (all_gates dir_blocks))
  header_then_others some = record { starts = may_close_header; goes = may_close_others some; ends = closes_all some }
