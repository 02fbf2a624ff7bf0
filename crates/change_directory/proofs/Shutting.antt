-- Both log slots are closed, the spare one first.
use Rattle.std.proofs.Common.{◌≡◌, ◌⊎◌, inl, inr, ⊎_elim, ℕ, ◌*◌, ◌<◌, ◌≤◌, false, refl, sym, ap, subst, ◌∙◌, Some, None, arith, ◌==◌}
use Rattle.bay.specs.Image.{Image, Same, ChangesOnly, Range}
use Rattle.bay.specs.State.{BayState}
use Rattle.bay.proofs.Images.{changes-within, changes-same, changes-trans, same-trans}
use Rattle.body_slot.specs.declared.place.Place.{Place}
use Rattle.body_slot.specs.Slot.{GateOf, PlaceOf, MayClose, Closes, FromHeld, WaitsFor, shown_body}
use Rattle.body_slot.proofs.Steps.{shown-elsewhere, shown-shut}
use Rattle.asm_formats.specs.Bytes.{block_size}
use Rattle.change_directory.specs.declared.copy.DirCopy.{DirCopy}
use Rattle.change_directory.specs.declared.copy.LogSlot.{LogSlot}
use Rattle.change_directory.specs.declared.copy.LogSlot.TheVariants.{First, Second}
use Rattle.change_directory.specs.Places.{HomesAt, gate_of, other_of, log_place}
use Rattle.change_directory.specs.Logs.{is_open_at, spare_in}
use Rattle.change_directory.specs.Formatting.{LogGatesOf, FormatOf, AreShut, MayShut, spare_closing, other_closing, HasShutSpare, HasShut, MayFormat, Zeroes, HasFormatted}
use Rattle.change_directory.proofs.Spares.{spare_same}

-- the two gates lie apart
gates_apart : (copy : DirCopy) (log : LogSlot) (k : ℕ) → copy.sector ≤ 4096 → 0 < copy.sector → Range copy.slot (gate_of copy (other_of log) * block_size) copy.sector copy.slot k → k ≡ gate_of copy log * block_size → ⊥
gates_apart copy First k short some inside is = omega (arith, inside.1, is)
gates_apart copy Second k short some inside is = omega (arith, inside.2, is)

other_twice : (log : LogSlot) → other_of (other_of log) ≡ log
other_twice First = refl
other_twice Second = refl

pub either_log : (P : LogSlot → Type 0) (log : LogSlot) → P log → P (other_of log) → (l : LogSlot) → P l
either_log P First mine yours First = mine
either_log P First mine yours Second = yours
either_log P Second mine yours First = yours
either_log P Second mine yours Second = mine

module _ (copy : DirCopy) (short : copy.sector ≤ 4096) (some : 0 < copy.sector) where
  abbrev place_of : LogSlot → Place
  place_of l = log_place copy l 65

  pub same_shut : (x y : Image) → Same x y → MayShut copy x y
  same_shut x y same = spare_closing (same_close (spare_in copy x) x x y (record { size = λ s. refl; byte = λ s k. refl }) same)
    where
      same_close : (l : LogSlot) (x w y : Image) → Same x w → Same w y → MayClose (place_of l) copy.slot x y
      same_close l x w y first second =
          let same = same-trans x w y first second in
          record {
            shows = inl (shown-elsewhere (place_of l) copy.slot some (λ s k. ⊥) x y (λ k mine none. none) (changes-same (λ s k. ⊥) x y same));
            elsewhere = changes-same (GateOf (place_of l) copy.slot) x y same;
          }

  in_gates : (l : LogSlot) (x y : Image) → ChangesOnly (GateOf (place_of l) copy.slot) x y → ChangesOnly (LogGatesOf copy) x y
  in_gates l x y step = changes-within (LogGatesOf copy) (GateOf (place_of l) copy.slot) x y (λ s k inside. (l, inside)) step

  here : (held : Image) (log : LogSlot) → log ≡ spare_in copy held → (x w : Image) → Same x w → ((k : ℕ) → w.byte copy.slot k ≡ held.byte copy.slot k) → log ≡ spare_in copy x
  here held log is x w same disk_ = is ∙ sym (spare_same copy x held (λ k. sym (same.byte copy.slot k) ∙ disk_ k))

  module _ {state : BayState} (held : Image) (holds : state.holds ≡ Some held) (log : LogSlot) (place : Place) (is : log ≡ spare_in copy held) (at : place ≡ place_of log) where
    pub shuts_from_held : (x w y : Image) → Same x w → WaitsFor state copy.slot (MayClose place copy.slot) w y → MayShut copy x y
    shuts_from_held x w y same (inl still) = same_shut x y (same-trans x w y same still)
    shuts_from_held x w y same (inr from) =
        let close : MayClose (place_of log) copy.slot w y = subst (λ (p : Place). MayClose p copy.slot w y) at from.steps in
        let shown_same : shown_body (place_of log) copy.slot w ≡ shown_body (place_of log) copy.slot x =
        shown-elsewhere (place_of log) copy.slot some (λ s k. ⊥) x w (λ k mine none. none) (changes-same (λ s k. ⊥) x w same) in
        spare_closing (subst (λ (l : LogSlot). MayClose (place_of l) copy.slot x y) (here held log is x w same (from.disk held holds)) (record {
          shows = ⊎_elim (λ before. inl (before ∙ shown_same)) inr close.shows;
          elsewhere = changes-trans (GateOf (place_of log) copy.slot) x w y (changes-same (GateOf (place_of log) copy.slot) x w same) close.elsewhere;
        }))

    pub shut_from_held : (x w y : Image) → Same x w → FromHeld state copy.slot (Closes place copy.slot) w y → HasShutSpare copy log x y
    shut_from_held x w y same from =
        let close : Closes (place_of log) copy.slot w y = subst (λ (p : Place). Closes p copy.slot w y) at from.steps in
        record {
          is = here held log is x w same (from.disk held holds);
          shut = shown-shut (place_of log) copy.slot y close.shows;
          elsewhere = changes-trans (GateOf (place_of log) copy.slot) x w y (changes-same (GateOf (place_of log) copy.slot) x w same) close.elsewhere;
        }

  module _ (log : LogSlot) (place : Place) (at : place ≡ place_of (other_of log)) where
    pub stays_shut : (y z : Image) → is_open_at copy log y ≡ false → ChangesOnly (GateOf (place_of (other_of log)) copy.slot) y z → is_open_at copy log z ≡ false
    stays_shut y z shut step = ap (λ (b : ℕ). b == 165) (step.byte copy.slot (gate_of copy log * block_size) (λ inside. gates_apart copy log (gate_of copy log * block_size) short some inside refl)) ∙ shut

    -- the spare slot's gate isn't one of the other slot's bytes
    pub apart : (k : ℕ) → PlaceOf (place_of (other_of log)) copy.slot copy.slot k → GateOf (place_of log) copy.slot copy.slot k → ⊥
    apart k inside gate = go log inside gate
      where
        go : (l : LogSlot) → PlaceOf (place_of (other_of l)) copy.slot copy.slot k → GateOf (place_of l) copy.slot copy.slot k → ⊥
        go First (inl mine) yours = omega (arith, mine.1, yours.2, short)
        go First (inr mine) yours = omega (arith, mine.1, yours.2, short)
        go Second (inl mine) yours = omega (arith, mine.2, yours.1, short)
        go Second (inr mine) yours = omega (arith, mine.2, yours.1, short)

    pub then_shuts : (x y z : Image) → HasShutSpare copy log x y → MayClose place copy.slot y z → MayShut copy x z
    then_shuts x y z first step =
        let close : MayClose (place_of (other_of log)) copy.slot y z = subst (λ (p : Place). MayClose p copy.slot y z) at step in
        let shut = stays_shut y z first.shut close.elsewhere in
        let before : shown_body (place_of (other_of log)) copy.slot y ≡ shown_body (place_of (other_of log)) copy.slot x =
        shown-elsewhere (place_of (other_of log)) copy.slot some (GateOf (place_of log) copy.slot) x y apart first.elsewhere in
        let shows : (shown_body (place_of (other_of log)) copy.slot z ≡ shown_body (place_of (other_of log)) copy.slot x) ⊎ (shown_body (place_of (other_of log)) copy.slot z ≡ None) =
        ⊎_elim (λ same. inl (same ∙ before)) inr close.shows in
        let elsewhere = changes-trans (LogGatesOf copy) x y z (in_gates log x y first.elsewhere) (in_gates (other_of log) y z close.elsewhere) in
        other_closing (subst (λ (l : LogSlot). is_open_at copy l z ≡ false) first.is shut)
        (subst (λ (l : LogSlot). (shown_body (place_of (other_of l)) copy.slot z ≡ shown_body (place_of (other_of l)) copy.slot x) ⊎ (shown_body (place_of (other_of l)) copy.slot z ≡ None)) first.is shows)
        elsewhere

    pub both_shut : (x y z : Image) → HasShutSpare copy log x y → Closes place copy.slot y z → HasShut copy x z
    both_shut x y z first step =
        let close : Closes (place_of (other_of log)) copy.slot y z = subst (λ (p : Place). Closes p copy.slot y z) at step in
        record {
          shut = either_log (λ (l : LogSlot). is_open_at copy l z ≡ false) log (stays_shut y z first.shut close.elsewhere) (shown-shut (place_of (other_of log)) copy.slot z close.shows);
          elsewhere = changes-trans (LogGatesOf copy) x y z (in_gates log x y first.elsewhere) (in_gates (other_of log) y z close.elsewhere);
        }

  -- ---- and then the pages

  gate_behind : (l : LogSlot) (k : ℕ) → HomesAt copy copy.slot k → k ≡ gate_of copy l * block_size → ⊥
  gate_behind First k inside is = omega (arith, inside.2, is)
  gate_behind Second k inside is = omega (arith, inside.2, is)

  pub still_shut : (y z : Image) → AreShut copy y → ChangesOnly (HomesAt copy) y z → AreShut copy z
  still_shut y z shut step = λ l. ap (λ (b : ℕ). b == 165) (step.byte copy.slot (gate_of copy l * block_size) (λ inside. gate_behind l (gate_of copy l * block_size) inside refl)) ∙ shut l

  pub erasing : (x y z : Image) → HasShut copy x y → ChangesOnly (HomesAt copy) y z → MayFormat copy x z
  erasing x y z shut step = inr (record {
    shut = still_shut y z shut.shut step;
    elsewhere = changes-trans (FormatOf copy) x y z (changes-within (FormatOf copy) (LogGatesOf copy) x y (λ s k inside. inl inside) shut.elsewhere)
        (changes-within (FormatOf copy) (HomesAt copy) y z (λ s k inside. inr inside) step);
  })

  pub erased : (x y z : Image) → HasShut copy x y → Zeroes copy (copy.dir_blocks * 4096) y z → HasFormatted copy x z
  erased x y z shut step = record {
    shut = still_shut y z shut.shut step.elsewhere;
    zeros = λ k low high. step.zeros k low (omega (arith, high));
    elsewhere = changes-trans (FormatOf copy) x y z (changes-within (FormatOf copy) (LogGatesOf copy) x y (λ s k inside. inl inside) shut.elsewhere)
        (changes-within (FormatOf copy) (HomesAt copy) y z (λ s k inside. inr inside) step.elsewhere);
  }
