use Rattle.std.proofs.Common.{◌≡◌}
use Rattle.std.specs.Prelude.{not, find}
use Rattle.alias_tree.specs.Nodes.{Numbered, is_right}
use Rattle.alias_tree.proofs.nodes.Nodes.first_unrooted.Given as goal

abbrev pub invariant-loop-number : goal.invariant-loop-number
invariant-loop-number l = find (λ (x : Numbered). not (is_right l.self x)) l.number-iterator ≡ find (λ (x : Numbered). not (is_right l.self x)) l.self
