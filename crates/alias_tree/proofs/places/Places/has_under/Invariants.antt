use Rattle.std.proofs.Common.{◌≡◌, map, ℕ}
use Rattle.alias_tree.specs.Places.{Place, numbers_under}
use Rattle.alias_tree.proofs.places.Places.has_under.Given as goal

abbrev pub invariant-loop-number : goal.invariant-loop-number
invariant-loop-number l = map (λ (e : Place × ℕ). e.1) l._number-iterator ≡ numbers_under l.self l.parent
