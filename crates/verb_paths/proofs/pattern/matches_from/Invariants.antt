use Rattle.std.proofs.Common.{◌≡◌, ◌+◌, length}
use Rattle.asm_group.specs.Names.{folded}
use Rattle.verb_paths.specs.Patterns.{matches_from}
use Rattle.verb_paths.proofs.pattern.matches_from.Given as goal

abbrev pub invariant-loop-behind : goal.invariant-loop-behind
invariant-loop-behind l = matches_from (folded l.pattern) (folded l.name) ≡ matches_from (folded l.fn.pattern) (folded l.fn.name)

abbrev pub decreases-loop-behind : goal.decreases-loop-behind
decreases-loop-behind l = length l.pattern + length l.name
