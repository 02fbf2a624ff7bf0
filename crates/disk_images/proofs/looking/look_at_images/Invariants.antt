use Rattle.std.proofs.Common.{◌≡◌, ◌<◌, ◌*◌, ℕ, length}
use Rattle.disk_images.specs.Looks.{Looks, AreLooked}
use Rattle.disk_images.proofs.looking.look_at_images.Given as goal

abbrev pub invariant-loop-slot : goal.invariant-loop-slot
invariant-loop-slot g l = record {
  looks : Looks (λ (s : ℕ). s < l.slot) (4 * l.slot) (g.B.Bay.state l.fn.bay) (g.B.Bay.state l.bay);
  count : length l.found.items ≡ l.slot;
  each : AreLooked l.found.items (g.B.Bay.state l.fn.bay) (g.B.Bay.state l.bay);
}
