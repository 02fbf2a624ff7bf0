-- Calls on a bay that tells nothing of images.
use Rattle.std.proofs.Common.{◌≡◌, ◌≢◌, ⊎_elim, ℕ, ◌≤◌, subst, sym, arith}
use Rattle.std.proofs.lemmas.Bool.{cases_eq}
use Rattle.bay.specs.Image.{Image}
use Rattle.bay.specs.State.{IsSlot}
use Rattle.bay.specs.Moments.{Runs}
use Rattle.bay_file.specs.Slots.{SlotMap, faults_in, OtherSlotsStay}
use Rattle.bay_file.specs.FileBays.{state_with}

module _ {old new : SlotMap} {before after slot : ℕ} {step : Image → Image → Type 0} where
  -- a call on one slot, with no count taken back, runs by any step
  pub runs_untold : OtherSlotsStay slot old new → faults_in old slot ≤ faults_in new slot → before ≤ after
      → Runs (IsSlot slot) step (state_with old before) (state_with new after)
  runs_untold others rises later = record {
    later = later;
    faults = λ s. ⊎_elim
        (λ (here : s ≡ slot). subst (λ (n : ℕ). faults_in old n ≤ faults_in new n) (sym here) rises)
        (λ (apart : s ≢ slot). omega (arith, others.faults s apart))
        (cases_eq s slot);
    other_faults = λ s apart. others.faults s apart;
    other_written = λ s apart. others.written s apart;
    tells = λ told. told;
    held = λ image is. cc;
    ended = λ m image past. (λ left. left, λ left. left);
    moments = λ m image from to left. absurd left;
  }
