-- How each part of a new disk leaves the others.
use Rattle.std.proofs.Common.{◌≡◌, ◌⊎◌, inl, inr, ⊎_elim, ℕ, zero, suc, ◌+◌, ◌*◌, ◌<◌, ◌≤◌, false, Option, Some, None, List, get_or, ◌∙◌, ap, arith}
use Rattle.std.specs.Prelude.{◌==◌}
use Rattle.bay.specs.Image.{Image, ChangesOnly}
use Rattle.bay.proofs.Images.{changes-within, changes-trans}
use Rattle.bay.proofs.OneCall.{Follows}
use Rattle.body_slot.specs.Slot.{PlaceOf, shown_body, is_open_in, MayPut, HasPut}
use Rattle.body_slot.proofs.Steps.{shown-elsewhere, shown-closed}
use Rattle.disk_forming.proofs.Shutting.{other_gates_inside}
use Rattle.disk_forming.specs.Places.{gated_slot_at, all_gates}
use Rattle.asm_formats.specs.Regions.{region_end}
use Rattle.disk_forming.specs.Gates.{GatesOf, MayCloseAll, ClosesAll}
use Rattle.disk_forming.specs.Forming.{ShowsBodies, LogsAreShut, MetaOf, MayGiveHeader, HasHeader, RecordsOf, headed, claimed, recorded, MayGiveRecord, HasRecord}

module _ (slot sector : ℕ) (some : 0 < sector) (short : sector ≤ 4096) where
  in_two_blocks : (g k : ℕ) → PlaceOf (gated_slot_at g 1 sector) slot slot k → (g * 4096 ≤ k) × (k < g * 4096 + 8192)
  in_two_blocks g k inside = ⊎_elim (λ gate. (omega (arith, gate.1), omega (arith, gate.2))) (λ body. (omega (arith, body.1), omega (arith, body.2))) inside

  -- slots of two blocks each that don't meet
  other_stays : (at other : ℕ) → (other + 2 ≤ at) ⊎ (at + 2 ≤ other) → (x y : Image) → ChangesOnly (PlaceOf (gated_slot_at at 1 sector) slot) x y
      → shown_body (gated_slot_at other 1 sector) slot y ≡ shown_body (gated_slot_at other 1 sector) slot x
  other_stays at other apart x y step = shown-elsewhere (gated_slot_at other 1 sector) slot some (PlaceOf (gated_slot_at at 1 sector) slot) x y meet step
    where
      meet : (k : ℕ) → PlaceOf (gated_slot_at other 1 sector) slot slot k → PlaceOf (gated_slot_at at 1 sector) slot slot k → ⊥
      meet k here there =
          let a = in_two_blocks other k here in
          let b = in_two_blocks at k there in
          ⊎_elim (λ (before : other + 2 ≤ at). absurd (omega (arith, a.0, a.1, b.0, b.1))) (λ (behind : at + 2 ≤ other). absurd (omega (arith, a.0, a.1, b.0, b.1))) apart

  -- a gate behind a slot
  shut_stays : (at other : ℕ) → at + 2 ≤ other → (x y : Image) → ChangesOnly (PlaceOf (gated_slot_at at 1 sector) slot) x y
      → is_open_in (gated_slot_at other 1 sector) slot x ≡ false → is_open_in (gated_slot_at other 1 sector) slot y ≡ false
  shut_stays at other behind x y step shut =
      ap (λ (b : ℕ). b == 165) (step.byte slot (other * 4096) (λ inside. let b = in_two_blocks at (other * 4096) inside in absurd (omega (arith, b.1, behind)))) ∙ shut

  -- ---- the header

  module _ (dir_blocks : ℕ) (long : 128 ≤ dir_blocks) (header : List ℕ) where
    header_in_meta : (x y : Image) → ChangesOnly (PlaceOf (gated_slot_at 0 1 sector) slot) x y → ChangesOnly (MetaOf slot dir_blocks) x y
    header_in_meta x y step = changes-within (MetaOf slot dir_blocks) (PlaceOf (gated_slot_at 0 1 sector) slot) x y
        (λ s k there. ⊎_elim (λ gate. (gate.0, omega arith, omega (arith, gate.1, gate.2))) (λ body. (body.0, omega arith, omega (arith, body.1, body.2))) there) step

    gates_in_meta : (x y : Image) → ChangesOnly (GatesOf slot sector (all_gates dir_blocks)) x y → ChangesOnly (MetaOf slot dir_blocks) x y
    gates_in_meta x y step = changes-within (MetaOf slot dir_blocks) (GatesOf slot sector (all_gates dir_blocks)) x y
        (λ s k inside. (inside.2.0, omega arith, let under = below inside.0 inside.1 in omega (arith, inside.2.2, under))) step
      where
        below : (n : ℕ) → n < 7 → get_or (all_gates dir_blocks) n 0 + 2 ≤ region_end dir_blocks
        below zero less = omega arith
        below (suc n) less = omega (arith, other_gates_inside dir_blocks n long (omega arith))

    header_change : (x y z : Image) → ClosesAll slot sector dir_blocks x y → ChangesOnly (PlaceOf (gated_slot_at 0 1 sector) slot) y z → ChangesOnly (MetaOf slot dir_blocks) x z
    header_change x y z closed step = changes-trans (MetaOf slot dir_blocks) x y z (gates_in_meta x y closed.elsewhere) (header_in_meta y z step)

    header_put : (shows : Option (List ℕ)) (x y z : Image) → ClosesAll slot sector dir_blocks x y → shown_body (gated_slot_at 0 1 sector) slot z ≡ shows → ChangesOnly (PlaceOf (gated_slot_at 0 1 sector) slot) y z
        → ShowsBodies slot sector shows None None z
    header_put shows x y z closed is step = record {
      header_slot = is;
      claim_slot = other_stays 0 2 (inr (omega arith)) y z step ∙ shown-closed (gated_slot_at 2 1 sector) slot y (closed.are_shut 1 (omega arith));
      second_claim = other_stays 0 4 (inr (omega arith)) y z step ∙ shown-closed (gated_slot_at 4 1 sector) slot y (closed.are_shut 2 (omega arith));
      status_slot = other_stays 0 6 (inr (omega arith)) y z step ∙ shown-closed (gated_slot_at 6 1 sector) slot y (closed.are_shut 3 (omega arith));
      second_status = other_stays 0 8 (inr (omega arith)) y z step ∙ shown-closed (gated_slot_at 8 1 sector) slot y (closed.are_shut 4 (omega arith));
    }

    logs_stay : (x y z : Image) → ClosesAll slot sector dir_blocks x y → ChangesOnly (PlaceOf (gated_slot_at 0 1 sector) slot) y z → LogsAreShut slot sector dir_blocks z
    logs_stay x y z closed step = record {
      first_log = shut_stays 0 (10 + dir_blocks) (omega arith) y z step (closed.are_shut 5 (omega arith));
      second_log = shut_stays 0 (76 + dir_blocks) (omega arith) y z step (closed.are_shut 6 (omega arith));
    }

    may_put_header : (x y z : Image) → ClosesAll slot sector dir_blocks x y → MayPut (gated_slot_at 0 1 sector) slot header y z → MayGiveHeader slot sector dir_blocks header x z
    may_put_header x y z closed step = inr (record {
      shows = ⊎_elim (λ same. inl (header_put None x y z closed (same ∙ shown-closed (gated_slot_at 0 1 sector) slot y (closed.are_shut 0 (omega arith))) step.elsewhere))
          (⊎_elim (λ none. inl (header_put None x y z closed none step.elsewhere)) (λ there. inr (header_put (Some header) x y z closed there step.elsewhere))) step.shows;
      logs = logs_stay x y z closed step.elsewhere;
      elsewhere = header_change x y z closed step.elsewhere;
    })

    pub has_put_header : (x y z : Image) → ClosesAll slot sector dir_blocks x y → HasPut (gated_slot_at 0 1 sector) slot header y z → HasHeader slot sector dir_blocks header x z
    has_put_header x y z closed step = record {
      shows = header_put (Some header) x y z closed step.shows step.elsewhere;
      logs = logs_stay x y z closed step.elsewhere;
      elsewhere = header_change x y z closed step.elsewhere;
    }

    -- the gates, and then the header
    pub gates_then_header : Follows (MayCloseAll slot sector dir_blocks) (ClosesAll slot sector dir_blocks) (MayPut (gated_slot_at 0 1 sector) slot header) (HasPut (gated_slot_at 0 1 sector) slot header)
        (MayGiveHeader slot sector dir_blocks header) (HasHeader slot sector dir_blocks header)
    gates_then_header = record { starts = λ x y step. inl step; goes = may_put_header; ends = has_put_header }

  -- ---- the claim, and last the status record

  module _ (claim status : List ℕ) where
    in_records : (at : ℕ) → 2 ≤ at → at + 2 ≤ 10 → (x y : Image) → ChangesOnly (PlaceOf (gated_slot_at at 1 sector) slot) x y → ChangesOnly (RecordsOf slot) x y
    in_records at low high x y step = changes-within (RecordsOf slot) (PlaceOf (gated_slot_at at 1 sector) slot) x y
        (λ s k there. ⊎_elim (λ gate. (gate.0, omega (arith, gate.1, low), omega (arith, gate.1, gate.2, high))) (λ body. (body.0, omega (arith, body.1, low), omega (arith, body.1, body.2, high))) there) step

    claim_put : (header : List ℕ) (shows : Option (List ℕ)) (y z : Image) → ShowsBodies slot sector (Some header) None None y → shown_body (gated_slot_at 2 1 sector) slot z ≡ shows
        → ChangesOnly (PlaceOf (gated_slot_at 2 1 sector) slot) y z → ShowsBodies slot sector (Some header) shows None z
    claim_put header shows y z before is step = record {
      header_slot = other_stays 2 0 (inl (omega arith)) y z step ∙ before.header_slot;
      claim_slot = is;
      second_claim = other_stays 2 4 (inr (omega arith)) y z step ∙ before.second_claim;
      status_slot = other_stays 2 6 (inr (omega arith)) y z step ∙ before.status_slot;
      second_status = other_stays 2 8 (inr (omega arith)) y z step ∙ before.second_status;
    }

    status_put : (header : List ℕ) (shows : Option (List ℕ)) (y z : Image) → ShowsBodies slot sector (Some header) (Some claim) None y → shown_body (gated_slot_at 6 1 sector) slot z ≡ shows
        → ChangesOnly (PlaceOf (gated_slot_at 6 1 sector) slot) y z → ShowsBodies slot sector (Some header) (Some claim) shows z
    status_put header shows y z before is step = record {
      header_slot = other_stays 6 0 (inl (omega arith)) y z step ∙ before.header_slot;
      claim_slot = other_stays 6 2 (inl (omega arith)) y z step ∙ before.claim_slot;
      second_claim = other_stays 6 4 (inl (omega arith)) y z step ∙ before.second_claim;
      status_slot = is;
      second_status = other_stays 6 8 (inr (omega arith)) y z step ∙ before.second_status;
    }

    may_put_claim : (y z : Image) → MayPut (gated_slot_at 2 1 sector) slot claim y z → MayGiveRecord slot sector claim status y z
    may_put_claim y z step = record {
      becomes = λ header before. ⊎_elim (λ same. headed (claim_put header None y z before (same ∙ before.claim_slot) step.elsewhere))
          (⊎_elim (λ none. headed (claim_put header None y z before none step.elsewhere)) (λ there. claimed (claim_put header (Some claim) y z before there step.elsewhere))) step.shows;
      elsewhere = in_records 2 (omega arith) (omega arith) y z step.elsewhere;
    }

    record_in : (x y z : Image) → ChangesOnly (PlaceOf (gated_slot_at 2 1 sector) slot) x y → ChangesOnly (PlaceOf (gated_slot_at 6 1 sector) slot) y z → ChangesOnly (RecordsOf slot) x z
    record_in x y z first next = changes-trans (RecordsOf slot) x y z (in_records 2 (omega arith) (omega arith) x y first) (in_records 6 (omega arith) (omega arith) y z next)

    may_put_status : (x y z : Image) → HasPut (gated_slot_at 2 1 sector) slot claim x y → MayPut (gated_slot_at 6 1 sector) slot status y z → MayGiveRecord slot sector claim status x z
    may_put_status x y z first step = record {
      becomes = λ header before. let claiming = claim_put header (Some claim) x y before first.shows first.elsewhere in
          ⊎_elim (λ same. claimed (status_put header None y z claiming (same ∙ claiming.status_slot) step.elsewhere))
          (⊎_elim (λ none. claimed (status_put header None y z claiming none step.elsewhere)) (λ there. recorded (status_put header (Some status) y z claiming there step.elsewhere))) step.shows;
      elsewhere = record_in x y z first.elsewhere step.elsewhere;
    }

    has_put_status : (x y z : Image) → HasPut (gated_slot_at 2 1 sector) slot claim x y → HasPut (gated_slot_at 6 1 sector) slot status y z → HasRecord slot sector claim status x z
    has_put_status x y z first step = record {
      becomes = λ header before. status_put header (Some status) y z (claim_put header (Some claim) x y before first.shows first.elsewhere) step.shows step.elsewhere;
      elsewhere = record_in x y z first.elsewhere step.elsewhere;
    }

    -- the claim, and then the record
    pub claim_then_status : Follows (MayPut (gated_slot_at 2 1 sector) slot claim) (HasPut (gated_slot_at 2 1 sector) slot claim) (MayPut (gated_slot_at 6 1 sector) slot status) (HasPut (gated_slot_at 6 1 sector) slot status)
        (MayGiveRecord slot sector claim status) (HasRecord slot sector claim status)
    claim_then_status = record { starts = may_put_claim; goes = may_put_status; ends = has_put_status }
