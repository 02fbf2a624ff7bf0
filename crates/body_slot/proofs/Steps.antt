-- What each call does to an image, put together.
use Rattle.std.proofs.Common.{◌≡◌, ◌⊎◌, inl, inr, ⊎_elim, ℕ, ◌+◌, ◌<◌, ◌≤◌, Bool, true, false, Some, None, List, length, get_or, refl, sym, ◌∙◌, ap, subst, arith}
use Rattle.std.specs.Prelude.{if◌then◌else◌, ◌==◌, Result, Ok, Err}
use Rattle.bay.specs.Image.{Image, window, Range, Same, ChangesOnly, Puts}
use Rattle.bay.proofs.Images.{get_or-window, window-same, changes-window, same-trans, changes-same, changes-within, changes-trans}
use Rattle.std.proofs.lemmas.Option.{same_Some}
use Rattle.bay.proofs.Calls.{stops, as_held}
use Rattle.bay.specs.State.{BayState, IsSound, IsSlot}
use Rattle.bay.specs.Moments.{Runs, Ends, Durable, Within}
use Rattle.bay.specs.Calls.{Cost, Call, ChangesEachImage, Tells}
use Rattle.bay.proofs.OneCall.{Follows, reworded}
use Rattle.body_slot.specs.declared.place.Place.{Place}
use Rattle.body_slot.specs.Slot.{IsUsablePlace, IsGateSettled, GateOf, PlaceOf, is_open_in, body_in, shown_body, SetsGate, FoundGate, Closes, MayClose, Opens, MayOpen, HasPut, MayFillShut, MayPut, FromHeld, WaitsFor}

-- where the gate is and what the body is says what is shown
shown-open : (place : Place) (slot : ℕ) (image : Image) → is_open_in place slot image ≡ true → shown_body place slot image ≡ Some (body_in place slot image)
shown-open place slot image is = ap (λ (b : Bool). if b then Some (body_in place slot image) else None) is

pub shown-closed : (place : Place) (slot : ℕ) (image : Image) → is_open_in place slot image ≡ false → shown_body place slot image ≡ None
shown-closed place slot image is = ap (λ (b : Bool). if b then Some (body_in place slot image) else None) is

shown-either : (place : Place) (slot : ℕ) (image : Image) → (shown_body place slot image ≡ None) ⊎ (shown_body place slot image ≡ Some (body_in place slot image))
shown-either place slot image = cases (is_open_in place slot image)
  where
    cases : (b : Bool) → ((if b then Some (body_in place slot image) else None) ≡ None) ⊎ ((if b then Some (body_in place slot image) else None) ≡ Some (body_in place slot image))
    cases true = inr refl
    cases false = inl refl

-- a slot that shows nothing is closed
pub shown-shut : (place : Place) (slot : ℕ) (image : Image) → shown_body place slot image ≡ None → is_open_in place slot image ≡ false
shown-shut place slot image none = cases (is_open_in place slot image) none
  where
    cases : (b : Bool) → (if b then Some (body_in place slot image) else None) ≡ None → b ≡ false
    cases true is = cc
    cases false is = refl

-- the same bytes show the same
shown-same : (place : Place) (slot : ℕ) (x y : Image) → y.byte slot place.gate ≡ x.byte slot place.gate → body_in place slot y ≡ body_in place slot x → shown_body place slot y ≡ shown_body place slot x
shown-same place slot x y gate body =
    ap (λ (b : ℕ). if b == 165 then Some (body_in place slot y) else None) gate
    ∙ ap (λ (l : List ℕ). if is_open_in place slot x then Some l else None) body

-- a slot that a change doesn't meet shows what it did
pub shown-elsewhere : (place : Place) (slot : ℕ) (some : 0 < place.sector) (region : ℕ → ℕ → Type 0) (x y : Image) → ((k : ℕ) → PlaceOf place slot slot k → region slot k → ⊥)
    → ChangesOnly region x y → shown_body place slot y ≡ shown_body place slot x
shown-elsewhere place slot some region x y apart step =
    shown-same place slot x y (step.byte slot place.gate (apart place.gate (inl (refl, omega arith, omega arith))))
    (changes-window region x y slot place.body place.len (λ k low high. apart k (inr (refl, low, high))) step)

-- where the disks are the same, a slot shows what it did
still_shown : (place : Place) (slot : ℕ) (x y : Image) → Same x y → shown_body place slot y ≡ shown_body place slot x
still_shown place slot x y same = shown-same place slot x y (same.byte slot place.gate) (window-same (x.byte slot) (y.byte slot) place.body place.len (λ k low high. same.byte slot k))

pub may_close-same : (place : Place) (slot : ℕ) (x y : Image) → Same x y → MayClose place slot x y
may_close-same place slot x y same = record { shows = inl (still_shown place slot x y same); elsewhere = changes-same (GateOf place slot) x y same }

pub may_put-same : (place : Place) (slot : ℕ) (body : List ℕ) (x y : Image) → Same x y → MayPut place slot body x y
may_put-same place slot body x y same = record { shows = inl (still_shown place slot x y same); elsewhere = changes-same (PlaceOf place slot) x y same }

-- a sector has bytes
pub has_sector : {state : BayState} {slot : ℕ} {place : Place} → IsUsablePlace state slot place → 0 < place.sector
has_sector usable = ⊎_elim (λ is. omega (arith, is)) (λ is. omega (arith, is)) usable.sector

module _ {state : BayState} {place : Place} {slot : ℕ} (usable : IsUsablePlace state slot place) where
  some : 0 < place.sector
  some = has_sector usable

  -- a write of the gate's sector changes the gate, and sets its first byte
  pub gate_changes : {n : ℕ} → n ≡ place.sector → (x y : Image) → ChangesOnly (Range slot place.gate n) x y → ChangesOnly (GateOf place slot) x y
  gate_changes long x y step = subst (λ (n : ℕ). ChangesOnly (Range slot place.gate n) x y) long step

  pub sets_gate : (first : ℕ) (bytes : List ℕ) (x y : Image) → length bytes ≡ place.sector → get_or bytes 0 0 ≡ first → Puts slot place.gate bytes x y → SetsGate place slot first x y
  sets_gate first bytes x y long is step = record {
    gate = ap (y.byte slot) (omega arith) ∙ sym (get_or-window (y.byte slot) place.gate (length bytes) 0 (omega arith)) ∙ ap (λ (l : List ℕ). get_or l 0 0) step.here ∙ is;
    elsewhere = gate_changes long x y step.elsewhere;
  }

  -- no byte of the body is one of the gate
  body_apart : (k : ℕ) → place.body ≤ k → k < place.body + place.len → GateOf place slot slot k → ⊥
  body_apart k low high gate = ⊎_elim (λ (before : place.gate + place.sector ≤ place.body). absurd (omega arith)) (λ (after : place.body + place.len ≤ place.gate). absurd (omega arith)) usable.apart

  -- a change of the gate leaves the body
  body_stays : (x y : Image) → ChangesOnly (GateOf place slot) x y → body_in place slot y ≡ body_in place slot x
  body_stays x y step = changes-window (GateOf place slot) x y slot place.body place.len body_apart step

  -- no byte of the gate is one of the body
  gate_apart : (k : ℕ) → k ≡ place.gate → Range slot place.body place.len slot k → ⊥
  gate_apart k is body = ⊎_elim (λ (before : place.gate + place.sector ≤ place.body). absurd (omega arith)) (λ (after : place.body + place.len ≤ place.gate). absurd (omega arith)) usable.apart

  -- closing
  may_close : (x y z : Image) → FoundGate place slot true x y → ChangesOnly (GateOf place slot) y z → MayClose place slot x z
  may_close x y z found step =
      let whole = changes-trans (GateOf place slot) x y z (changes-same (GateOf place slot) x y found.same) step in
      let was_open = ap (λ (b : ℕ). b == 165) (sym (found.same.byte slot place.gate)) ∙ found.gate in
      record {
        shows = ⊎_elim inr (λ shows. inl (shows ∙ ap Some (body_stays x z whole) ∙ sym (shown-open place slot x was_open))) (shown-either place slot z);
        elsewhere = whole;
      }

  closes : (x y z : Image) → FoundGate place slot true x y → SetsGate place slot 0 y z → Closes place slot x z
  closes x y z found step = record {
    shows = shown-closed place slot z (ap (λ (b : ℕ). b == 165) step.gate);
    elsewhere = changes-trans (GateOf place slot) x y z (changes-same (GateOf place slot) x y found.same) step.elsewhere;
  }

  pub closes-found : (x y : Image) → FoundGate place slot false x y → Closes place slot x y
  closes-found x y found = record { shows = shown-closed place slot y found.gate; elsewhere = changes-same (GateOf place slot) x y found.same }

  closes-still : (x y z : Image) → FoundGate place slot false x y → Same y z → Closes place slot x z
  closes-still x y z found same =
      closes-found x z (record { gate = ap (λ (n : ℕ). n == 165) (same.byte slot place.gate) ∙ found.gate; same = same-trans x y z found.same same })

  -- an open gate is written
  pub closing : Follows Same (FoundGate place slot true) (ChangesOnly (GateOf place slot)) (SetsGate place slot 0) (MayClose place slot) (Closes place slot)
  closing = record { starts = may_close-same place slot; goes = may_close; ends = closes }

  -- a closed one isn't
  pub staying : Follows Same (FoundGate place slot false) Same Same (MayClose place slot) (Closes place slot)
  staying = record { starts = may_close-same place slot; goes = λ x y z found same. may_close-same place slot x z (same-trans x y z found.same same); ends = closes-still }

  -- opening
  pub may_open : (x y : Image) → ChangesOnly (GateOf place slot) x y → MayOpen place slot x y
  may_open x y step = record {
    shows = ⊎_elim inl (λ shows. inr (shows ∙ ap Some (body_stays x y step))) (shown-either place slot y);
    elsewhere = step;
  }

  pub opens : (x y : Image) → SetsGate place slot 165 x y → Opens place slot x y
  opens x y step = record {
    shows = shown-open place slot y (ap (λ (b : ℕ). b == 165) step.gate) ∙ ap Some (body_stays x y step.elsewhere);
    elsewhere = step.elsewhere;
  }

  -- putting
  in_place : (x y : Image) → ChangesOnly (GateOf place slot) x y → ChangesOnly (PlaceOf place slot) x y
  in_place x y step = changes-within (PlaceOf place slot) (GateOf place slot) x y (λ s k inside. inl inside) step

  put-close : (body : List ℕ) (x y : Image) → MayClose place slot x y → MayPut place slot body x y
  put-close body x y step = record {
    shows = ⊎_elim inl (λ none. inr (inl none)) step.shows;
    elsewhere = in_place x y step.elsewhere;
  }

  put-then : (body : List ℕ) (x y z : Image) → Closes place slot x y → MayFillShut place slot body y z → MayPut place slot body x z
  put-then body x y z closed step = record {
    shows = inr (step.shows closed.shows);
    elsewhere = changes-trans (PlaceOf place slot) x y z (in_place x y closed.elsewhere) step.elsewhere;
  }

  then_put : (body : List ℕ) (x y z : Image) → Closes place slot x y → HasPut place slot body y z → HasPut place slot body x z
  then_put body x y z closed step = record {
    shows = step.shows;
    elsewhere = changes-trans (PlaceOf place slot) x y z (in_place x y closed.elsewhere) step.elsewhere;
  }

  pub putting : (body : List ℕ) → Follows (MayClose place slot) (Closes place slot) (MayFillShut place slot body) (HasPut place slot body) (MayPut place slot body) (HasPut place slot body)
  putting body = record { starts = put-close body; goes = put-then body; ends = then_put body }

  -- the body of a closed slot is written
  module _ (body : List ℕ) (at : ℕ) (begins : at ≡ place.body) (whole : length body ≡ place.len) where
    filled_place : (x y : Image) → ChangesOnly (Range slot at (length body)) x y → ChangesOnly (PlaceOf place slot) x y
    filled_place x y step = changes-within (PlaceOf place slot) (Range slot at (length body)) x y (λ s k inside. inr (inside.0, omega (arith, inside.1), omega (arith, inside.2))) step

    stays_shut : (x y : Image) → shown_body place slot x ≡ None → ChangesOnly (Range slot at (length body)) x y → shown_body place slot y ≡ None
    stays_shut x y none step =
        let gate_stays = step.byte slot place.gate (λ inside. gate_apart place.gate refl (inside.0, omega (arith, inside.1), omega (arith, inside.2))) in
        shown-closed place slot y (ap (λ (b : ℕ). b == 165) gate_stays ∙ shown-shut place slot x none)

    may_fill : (x y : Image) → ChangesOnly (Range slot at (length body)) x y → MayFillShut place slot body x y
    may_fill x y step = record { shows = λ none. inl (stays_shut x y none step); elsewhere = filled_place x y step }

    is_filled : (x y : Image) → Puts slot at body x y → body_in place slot y ≡ body
    is_filled x y step = ap (λ (n : ℕ). window (y.byte slot) n place.len) (sym begins) ∙ ap (λ (n : ℕ). window (y.byte slot) at n) (sym whole) ∙ step.here

    fill-open : (x y z : Image) → Puts slot at body x y → MayOpen place slot y z → MayFillShut place slot body x z
    fill-open x y z filled step = record {
      shows = λ none. ⊎_elim inl (λ shows. inr (shows ∙ ap Some (is_filled x y filled))) step.shows;
      elsewhere = changes-trans (PlaceOf place slot) x y z (filled_place x y filled.elsewhere) (in_place y z step.elsewhere);
    }

    has_put : (x y z : Image) → Puts slot at body x y → Opens place slot y z → HasPut place slot body x z
    has_put x y z filled step = record {
      shows = step.shows ∙ ap Some (is_filled x y filled);
      elsewhere = changes-trans (PlaceOf place slot) x y z (filled_place x y filled.elsewhere) (in_place y z step.elsewhere);
    }

    -- and the gate is opened
    pub filling : Follows (ChangesOnly (Range slot at (length body))) (Puts slot at body) (MayOpen place slot) (Opens place slot) (MayFillShut place slot body) (HasPut place slot body)
    filling = record { starts = may_fill; goes = fill-open; ends = has_put }

-- what a read gives of a gate that each image has as it is held is so in each image
found_as_held : (place : Place) (slot : ℕ) (answer : Bool) (a b : BayState) → IsSound a → IsGateSettled place slot a → Runs (IsSlot slot) Same a b
    → ((image : Image) → a.holds ≡ Some image → answer ≡ is_open_in place slot image) → Ends (FoundGate place slot answer) a b
found_as_held place slot answer a b sound settled read answered = record {
  held = λ image holds.
      let start = read.held image holds in
      (start.0, start.1, record { gate = same_gate start.0 image start.2 ∙ sym (answered start.0 start.1); same = start.2 });
  now = λ image left.
      let start = (stops read).now image left in
      let held = sound.told start.0 start.1 in
      (start.0, start.1, record { gate = same_gate start.0 image start.2 ∙ settled.gate start.0 held.0 start.1 held.1 ∙ sym (answered held.0 held.1); same = start.2 });
}
  where
    same_gate : (x y : Image) → Same x y → is_open_in place slot y ≡ is_open_in place slot x
    same_gate x y same = ap (λ (n : ℕ). n == 165) (same.byte slot place.gate)

pub finds : {E : Type 0} {result : Result Bool E} {most : Cost} (place : Place) (slot : ℕ) {a b : BayState} → IsSound a → IsGateSettled place slot a
    → Call result slot Same (λ found. Tells (λ image. found ≡ is_open_in place slot image)) most a b → Call result slot Same (λ found. Ends (FoundGate place slot found)) most a b
finds {result = Ok answer} place slot sound settled call = record { calls = call.calls; done = found_as_held place slot answer _ _ sound settled call.calls.runs call.done; cause = tt }
finds {result = Err e} place slot sound settled call = record { calls = call.calls; done = tt; cause = call.cause }

-- After a sync what a read gives of the gate is so in each image, and each has on the slot's disk what the disks held before.
pub found_gate : (place : Place) (slot : ℕ) (answer : Bool) (a b c : BayState) → IsSound b → Runs (IsSlot slot) Same a b → Durable slot b → Runs (IsSlot slot) Same b c
    → ((image : Image) → b.holds ≡ Some image → answer ≡ is_open_in place slot image) → Ends (FromHeld a slot (FoundGate place slot answer)) a c
found_gate place slot answer a b c sound synced durable read answered = record {
  held = λ image now.
      let mid = read.held image now in
      let start = synced.held mid.0 mid.1 in
      (start.0, start.1, record { disk = λ held holds k. ap (λ (i : Image). i.byte slot k) (held_once holds start.1); steps = finds start.0 mid.0 image start.2 mid.2 mid.0 mid.1 (λ k. refl) });
  now = λ image left.
      let mid = (stops read).now image left in
      let start = (stops synced).now mid.0 mid.1 in
      let there = as_held {image = mid.0} sound durable mid.1 in
      let before = synced.held there.0 there.1 in (
        start.0,
        start.1,
        record {
          disk = λ held holds k. sym (start.2.byte slot k) ∙ there.2 k ∙ before.2.byte slot k ∙ ap (λ (i : Image). i.byte slot k) (held_once holds before.1);
          steps = finds start.0 mid.0 image start.2 mid.2 there.0 there.1 there.2;
        },
      );
}
  where
    held_once : {held other : Image} → a.holds ≡ Some held → a.holds ≡ Some other → other ≡ held
    held_once {held} {other} holds is = same_Some other held (sym is ∙ holds)

    finds : (start mid image : Image) → Same start mid → Same mid image → (there : Image) → b.holds ≡ Some there → ((k : ℕ) → mid.byte slot k ≡ there.byte slot k)
        → FoundGate place slot answer start image
    finds start mid image first second there is same = record {
      gate = ap (λ (n : ℕ). n == 165) (second.byte slot place.gate ∙ same place.gate) ∙ sym (answered there is);
      same = same-trans start mid image first second;
    }

-- ---- steps from what was held

module _ (state : BayState) (slot : ℕ) where
  module _ {may done next_may next_done whole_may whole_done : Image → Image → Type 0} (follows : Follows may done next_may next_done whole_may whole_done) where
    goes : (x y z : Image) → FromHeld state slot done x y → next_may y z → WaitsFor state slot whole_may x z
    goes x y z did next = inr (record { disk = did.disk; steps = follows.goes x y z did.steps next })

    ends : (x y z : Image) → FromHeld state slot done x y → next_done y z → FromHeld state slot whole_done x z
    ends x y z did next = record { disk = did.disk; steps = follows.ends x y z did.steps next }

    -- two calls of which the first waits
    pub waiting : Follows (WaitsFor state slot may) (FromHeld state slot done) next_may next_done (WaitsFor state slot whole_may) (FromHeld state slot whole_done)
    waiting = record { starts = λ x y waits. ⊎_elim inl (λ (from : FromHeld state slot may x y). inr (record { disk = from.disk; steps = follows.starts x y from.steps })) waits; goes = goes; ends = ends }

    -- two calls of which the first changes nothing
    pub waiting_still : Follows Same (FromHeld state slot done) next_may next_done (WaitsFor state slot whole_may) (FromHeld state slot whole_done)
    waiting_still = record { starts = λ x y same. inl same; goes = goes; ends = ends }

  pub from_less : {step whole : Image → Image → Type 0} → Within step whole → (x y : Image) → FromHeld state slot step x y → FromHeld state slot whole x y
  from_less {step} {whole} within x y from = record { disk = from.disk; steps = within x y from.steps }

-- a call, without what is known of the images that it came from
pub plain : {T E : Type 0} {result : Result T E} {state : BayState} {slot : ℕ} {step done : Image → Image → Type 0} {most : Cost} {a b : BayState} → Within Same step
    → Call result slot (WaitsFor state slot step) (ChangesEachImage (FromHeld state slot done)) most a b → Call result slot step (ChangesEachImage done) most a b
plain still call = reworded (λ x y waits. ⊎_elim (still x y) (λ from. from.steps) waits) (λ x y from. from.steps) (record { calls = omega arith; bytes = λ s. omega arith }) call
