-- What calls on disks that no other group holds leave of those that are held.
use Rattle.std.proofs.Common.{◌≡◌, ℕ, ◌<◌, Bool, false, List, sym, ◌∙◌, ◌==◌}
use Rattle.std.specs.List.{list_any}
use Rattle.std.proofs.lemmas.Bool.{false≢true}
use Rattle.bay.specs.Image.{Image, ChangesOnly, Same}
use Rattle.bay.specs.State.{BayState}
use Rattle.bay.specs.Moments.{Runs}
use Rattle.bay.proofs.Calls.{goes_on, on_more, stops, widened}
use Rattle.mounted_groups.specs.Holding.{IsHeldSlot, SameHeld, SparesHeld}

module _ (held : List ℕ) where
  pub same_held : (x y : Image) → Same x y → SameHeld held x y
  same_held x y same slot is = record { size = same.size slot; byte = same.byte slot }

  pub held_trans : (x y z : Image) → SameHeld held x y → SameHeld held y z → SameHeld held x z
  held_trans x y z one two slot is =
      let a = one slot is in
      let b = two slot is in
      record { size = b.size ∙ a.size; byte = λ k. b.byte k ∙ a.byte k }

  -- what changes disks alone that aren't held
  pub change_held : (own : ℕ → Type 0) → ((slot : ℕ) → own slot → IsHeldSlot held slot → ⊥) → (x y : Image) → ChangesOnly (λ slot k. own slot) x y → SameHeld held x y
  change_held own free x y change slot is = record { size = change.size slot; byte = λ k. change.byte slot k (λ mine. free slot mine is) }

  module _ (n : ℕ) where
    pub looks_held : {s t : BayState} → Runs (λ slot. slot < n) Same s t → SparesHeld held n s t
    looks_held {s} {t} run = widened same_held run

    pub spares_on : {s m t : BayState} → SparesHeld held n s m → SparesHeld held n m t → SparesHeld held n s t
    spares_on {s} {m} {t} one two = goes_on held_trans one (stops one) two

    -- calls on some of the slots
    pub spares_some : {s t : BayState} {some : ℕ → Type 0} {step : Image → Image → Type 0} → ((slot : ℕ) → some slot → slot < n) → ((x y : Image) → step x y → SameHeld held x y) → Runs some step s t
        → SparesHeld held n s t
    spares_some {s} {t} {some} {step} inside spares run = on_more inside (widened spares run)

-- the slot was tested, and isn't held
pub free_of : (held : List ℕ) (slot : ℕ) (b : Bool) → b ≡ list_any (λ s. s == slot) held → b ≡ false → IsHeldSlot held slot → ⊥
free_of held slot b is fails held_is = false≢true (sym fails ∙ (is ∙ held_is))
