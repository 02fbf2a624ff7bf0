use Rattle.std.proofs.Common.{◌≡◌, drop}
use Rattle.asm_group.specs.Names.{folded_path}
use Rattle.asm_group.specs.TreeEdits.{is_under}
use Rattle.alias_edits.proofs.causes.is_under.Given as goal

abbrev pub invariant-loop-i : goal.invariant-loop-i
invariant-loop-i l = is_under (folded_path (drop l.i l.dir)) (folded_path (drop l.i l.path)) ≡ is_under (folded_path l.dir) (folded_path l.path)
