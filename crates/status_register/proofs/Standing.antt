-- A record that stands on its members is kept.
use Rattle.std.proofs.Common.{◌≡◌, inl, ⊎_elim, refl, ap, arith}
use Rattle.bay.specs.State.{BayState}
use Rattle.asm_formats.specs.Following.{rank}
use Rattle.status_register.specs.Keeping.{KeepsStanding}
use Rattle.status_register.specs.Registered.{Registered}

pub stands : (s : BayState) (register : Registered) → register.value.id ≡ register.id → register.value.epoch ≡ register.epoch → register.value.turn ≡ register.turn
    → KeepsStanding register s
stands s register group epoch turn slots now = record {
  continues = record {
    group = group;
    counts = inl refl;
    holds = λ written. refl;
    below = λ r h. ⊎_elim (λ (same : r ≡ register.value). omega (arith, ap rank same, epoch, turn)) (λ none. absurd none) h;
  };
  now = now;
}
