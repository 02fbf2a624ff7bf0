use Rattle.std.proofs.Common.{◌≡◌, ◌++◌, take, drop}
use Rattle.asm_group.specs.Names.{folded}
use Rattle.alias_tree.proofs.places.put_folded.Given as goal

abbrev pub invariant-loop-i : goal.invariant-loop-i
invariant-loop-i l = l.field ≡ folded (take l.i l.bytes) ++ drop l.i l.fn.field
