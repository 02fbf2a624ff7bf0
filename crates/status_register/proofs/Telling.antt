-- What is told of the disks over calls that leave them.
use Rattle.std.proofs.Common.{◌≡◌, ℕ, ◌≤◌, Option, Some, None, refl, ◌∙◌, arith}
use Rattle.std.specs.Prelude.{IsSome, unwrap_or}
use Rattle.std.proofs.lemmas.Bool.{false≢true}
use Rattle.bay.specs.Image.{Image, Same}
use Rattle.bay.specs.State.{BayState, IsSlot, IsSound}
use Rattle.bay.specs.Calls.{Calls, Cost, both_costs}
use Rattle.bay.specs.Moments.{Runs, Ends, Durable}
use Rattle.bay.proofs.Calls.{stops, still_durable, as_held}
use Rattle.bay.proofs.Images.{same-trans}
use Rattle.bay.proofs.OneCall.{joined}
use Rattle.bay.proofs.Telling.{told_before, told_later}
use Rattle.status_register.specs.Places.{HasSlots}
use Rattle.bay.specs.Told.{Told}
use Rattle.status_register.specs.Slots.{FoundNextGate}

-- two reads of a slot's disk, one after the other
module _ {slot : ℕ} {one two : Cost} {s m t : BayState} (first : Calls (IsSlot slot) Same one s m) (next : Calls (IsSlot slot) Same two m t) where
  pub both_read : Calls (IsSlot slot) Same (both_costs one two) s t
  both_read = joined same-trans first (stops first.runs) next

  pub told_both : (P Q R : Image → Type 0) → ((x y : Image) → Same x y → Q y → Q x) → ((x : Image) → P x → Q x → R x) → Told s m P → Told m t Q → Told s t R
  told_both P Q R keeps joins p q = λ now holds image was.
      joins image (told_later s m t P next.runs p now holds image was) (told_before s m t Q first.runs next.runs keeps q now holds image was)

-- each byte of a slot's disk is the same
abbrev pub SameBytes : ℕ → Image → Image → Type 0
SameBytes slot x y = (k : ℕ) → y.byte slot k ≡ x.byte slot k

pub size_known : (o : Option ℕ) → IsSome o → (size : ℕ) × (o ≡ Some size) × (unwrap_or o 0 ≡ size)
size_known (Some n) is = (n, refl, refl)
size_known None is = absurd (false≢true is)

-- a disk with its slots is as long in each image that a stop may leave
pub slots_long : {s : BayState} (slot sector : ℕ) → IsSound s → HasSlots s slot sector → (image : Image) → s.leaves s.calls image → 40960 ≤ image.size slot
slots_long {s} slot sector sound has image left =
    let size = size_known (s.attached slot) has.attached in
    omega (arith, has.long, size.2, sound.sized slot size.0 image size.1 left)

-- What is told after a sync of a slot's disk holds of each image that a stop may leave.
module _ (m t : BayState) {slot : ℕ} {later : ℕ → Type 0} (gate_of : Image → ℕ) (gate : ℕ) (depends : (x y : Image) → SameBytes slot x y → gate_of y ≡ gate_of x) (next : Runs later Same m t)
    (told : Told m t (λ image. gate_of image ≡ gate)) where
  held_gate : (image : Image) → t.holds ≡ Some image → gate_of image ≡ gate
  held_gate image holds = let mid = next.held image holds in depends mid.0 image (λ k. mid.2.byte slot k) ∙ told image holds mid.0 mid.1

  pub gate_found : {s : BayState} {slots : ℕ → Type 0} → IsSound t → Durable slot m → Runs slots Same s t → Ends (FoundNextGate gate_of gate) s t
  gate_found {s} sound durable whole =
      let settled : Durable slot t = still_durable (λ x y k same. same.byte slot k) next durable in
      record {
        held = λ image holds. let from = whole.held image holds in (from.0, from.1, record { gate_is = held_gate image holds; same = from.2 });
        now = λ image left.
            let from = (stops whole).now image left in
            let there = as_held {image = image} sound settled left in
            (from.0, from.1, record { gate_is = depends there.0 image there.2 ∙ held_gate there.0 there.1; same = from.2 });
      }
