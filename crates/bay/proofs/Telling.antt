-- What is told of the disks over calls that leave them.
use Rattle.std.proofs.Common.{ℕ, sym, subst, ◌∙◌}
use Rattle.std.proofs.lemmas.Option.{same_Some}
use Rattle.bay.specs.Image.{Image, Same}
use Rattle.bay.specs.State.{BayState}
use Rattle.bay.specs.Moments.{Runs}
use Rattle.bay.specs.Told.{Told}

module _ (s m t : BayState) (P : Image → Type 0) {slots : ℕ → Type 0} {step : Image → Image → Type 0} where
  -- what was told is told later
  pub told_later : Runs slots step m t → Told s m P → Told s t P
  told_later run told = λ now holds. let from = run.held now holds in told from.0 from.1

  -- what is told of disks that are as they were is told of those before
  pub told_before : {early : ℕ → Type 0} → Runs early Same s m → Runs slots step m t → ((x y : Image) → Same x y → P y → P x) → Told m t P → Told s t P
  told_before first next keeps told = λ now holds image was.
      let mid = next.held now holds in
      let start = first.held mid.0 mid.1 in
      subst P (same_Some start.0 image (sym start.1 ∙ was)) (keeps start.0 mid.0 start.2 (told now holds mid.0 mid.1))
