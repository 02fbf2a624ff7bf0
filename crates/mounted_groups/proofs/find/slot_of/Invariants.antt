use Rattle.std.proofs.Common.{◌≡◌, ◌<◌, ℕ, [], map, get_or}
use Rattle.std.specs.String.{string_bytes}
use Rattle.mounted_groups.proofs.find.slot_of.Given as goal

abbrev pub invariant-loop-slot : goal.invariant-loop-slot
invariant-loop-slot l = (k : ℕ) → k < l.slot → get_or (map string_bytes l.paths) k [] ≡ l.path → ⊥
