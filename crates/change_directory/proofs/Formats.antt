-- The content while a copy is formatted, from image to image.
use Rattle.std.proofs.Common.{◌≡◌, ◌⊎◌, inl, inr, ⊎_elim, ℕ, ◌*◌, ◌≤◌, Bool, true, false, cond, refl, sym, ap, ◌∙◌, Some, None, arith, ◌==◌}
use Rattle.std.specs.Prelude.{nat_lt, nat_le}
use Rattle.std.proofs.lemmas.Bool.{cases_Bool, cond-true, cond-false, lt-ltb, le-leb, ltb-true, leb-true, false≢true}
use Rattle.bay.specs.Image.{Image, ChangesOnly}
use Rattle.body_slot.specs.declared.place.Place.{Place}
use Rattle.body_slot.specs.Slot.{GateOf, MayClose, shown_body, body_in}
use Rattle.body_slot.proofs.Steps.{shown-elsewhere}
use Rattle.asm_formats.specs.Bytes.{block_size}
use Rattle.asm_formats.specs.Regions.{second_log}
use Rattle.change_directory.specs.declared.copy.DirCopy.{DirCopy}
use Rattle.change_directory.specs.declared.copy.LogSlot.{LogSlot}
use Rattle.change_directory.specs.declared.copy.LogSlot.TheVariants.{First, Second}
use Rattle.change_directory.specs.Places.{gate_of, other_of, log_place}
use Rattle.change_directory.specs.Logs.{is_open_at, spare_in}
use Rattle.change_directory.specs.Changes.{IsAtHome, DecodesIn}
use Rattle.change_directory.specs.Formatting.{LogGatesOf, spare_closing, other_closing, MayFormat, MayLoseContent}
use Rattle.change_directory.specs.StoreLaws.{IsShaped, HasRegion}
use Rattle.change_directory.proofs.Losing.{shut_none, open_keeps, spare_keeps}
use Rattle.change_directory.proofs.Regions.{short_sector, some_sector}
use Rattle.change_directory.proofs.Shutting.{apart, either_log}

module _ (copy : DirCopy) (shaped : IsShaped copy) (x y : Image) (sized : HasRegion copy x) (decodes : DecodesIn copy x) (home : IsAtHome copy x) (elsewhere : ChangesOnly (LogGatesOf copy) x y) where
  abbrev place_of : LogSlot → Place
  place_of l = log_place copy l 65

  short : copy.sector ≤ 4096
  short = short_sector copy shaped

  -- the second gate
  abbrev m : ℕ
  m = second_log copy.dir_blocks * block_size

  -- of the two gates' sectors, those of one
  abbrev is_his : LogSlot → ℕ → Bool
  is_his First k = nat_lt k m
  is_his Second k = nat_le m k

  his : (l g : LogSlot) (s k : ℕ) → GateOf (place_of g) copy.slot s k → is_his l k ≡ true → GateOf (place_of l) copy.slot s k
  his First First s k inside e = inside
  his First Second s k inside e = absurd (omega (arith, inside.1, ltb-true k m e))
  his Second First s k inside e = absurd (omega (arith, inside.2, short, leb-true m k e))
  his Second Second s k inside e = inside

  others : (l g : LogSlot) (s k : ℕ) → GateOf (place_of g) copy.slot s k → is_his l k ≡ false → GateOf (place_of (other_of l)) copy.slot s k
  others First First s k inside e = absurd (false≢true (sym e ∙ lt-ltb k m (omega (arith, inside.2, short))))
  others First Second s k inside e = inside
  others Second First s k inside e = inside
  others Second Second s k inside e = absurd (false≢true (sym e ∙ le-leb m k inside.1))

  own_gate : (l : LogSlot) → is_his l (gate_of copy l * block_size) ≡ true
  own_gate First = lt-ltb (gate_of copy First * block_size) m (omega arith)
  own_gate Second = le-leb m m (omega arith)

  module _ (l : LogSlot) (is : l ≡ spare_in copy x) (shut : is_open_at copy l y ≡ false)
      (shows : (shown_body (place_of (other_of l)) copy.slot y ≡ shown_body (place_of (other_of l)) copy.slot x) ⊎ (shown_body (place_of (other_of l)) copy.slot y ≡ None)) where
    -- the spare slot is closed, and nothing else is done
    abbrev between : Image
    between = record { size = x.size; byte = λ s k. cond (is_his l k) (y.byte s k) (x.byte s k) }

    first_step : ChangesOnly (GateOf (place_of l) copy.slot) x between
    first_step = record {
      size = λ s. refl;
      byte = λ s k outside. ⊎_elim
          (λ e. cond-true (is_his l k) (y.byte s k) (x.byte s k) e ∙ elsewhere.byte s k (λ inside. outside (his l inside.0 s k inside.1 e)))
          (λ e. cond-false (is_his l k) (y.byte s k) (x.byte s k) e)
          (cases_Bool (is_his l k));
    }

    next_step : ChangesOnly (GateOf (place_of (other_of l)) copy.slot) between y
    next_step = record {
      size = elsewhere.size;
      byte = λ s k outside. ⊎_elim
          (λ e. sym (cond-true (is_his l k) (y.byte s k) (x.byte s k) e))
          (λ e. elsewhere.byte s k (λ inside. outside (others l inside.0 s k inside.1 e)) ∙ sym (cond-false (is_his l k) (y.byte s k) (x.byte s k) e))
          (cases_Bool (is_his l k));
    }

    shut_between : is_open_at copy l between ≡ false
    shut_between =
        ap (λ (b : ℕ). b == 165) (cond-true (is_his l (gate_of copy l * block_size)) (y.byte copy.slot (gate_of copy l * block_size)) (x.byte copy.slot (gate_of copy l * block_size)) (own_gate l)) ∙ shut

    closes : MayClose (place_of l) copy.slot x between
    closes = record { shows = inr (cond-false (is_open_at copy l between) (Some (body_in (place_of l) copy.slot between)) None shut_between); elsewhere = first_step }

    other_before : shown_body (place_of (other_of l)) copy.slot between ≡ shown_body (place_of (other_of l)) copy.slot x
    other_before = shown-elsewhere (place_of (other_of l)) copy.slot (some_sector copy shaped) (GateOf (place_of l) copy.slot) x between
        (apart copy short (some_sector copy shaped) l (place_of (other_of l)) refl) first_step

    other_closes : MayClose (place_of (other_of l)) copy.slot between y
    other_closes = record { shows = ⊎_elim (λ same. inl (same ∙ sym other_before)) inr shows; elsewhere = next_step }

    shut_loses : MayLoseContent copy x y
    shut_loses = ⊎_elim
        (λ opened. inl (open_keeps copy shaped.least short (other_of l) between y sized other_closes opened
        ∙ spare_keeps copy shaped.least short l x between sized closes is home decodes))
        (λ other_shut. inr (shut_none copy shaped.least short y (omega (arith, sized, elsewhere.size copy.slot)) (either_log (λ (g : LogSlot). is_open_at copy g y ≡ false) l shut other_shut)))
        (cases_Bool (is_open_at copy (other_of l) y))

pub formatting_loses : (copy : DirCopy) (x y : Image) → IsShaped copy → HasRegion copy x → DecodesIn copy x → IsAtHome copy x → MayFormat copy x y → MayLoseContent copy x y
formatting_loses copy x y shaped sized decodes home (inl (spare_closing close)) =
    inl (spare_keeps copy shaped.least (short_sector copy shaped) (spare_in copy x) x y sized close refl home decodes)
formatting_loses copy x y shaped sized decodes home (inl (other_closing shut shows elsewhere)) = shut_loses copy shaped x y sized decodes home elsewhere (spare_in copy x) refl shut shows
formatting_loses copy x y shaped sized decodes home (inr erasing) =
    inr (shut_none copy shaped.least (short_sector copy shaped) y (omega (arith, sized, erasing.elsewhere.size copy.slot)) erasing.shut)
