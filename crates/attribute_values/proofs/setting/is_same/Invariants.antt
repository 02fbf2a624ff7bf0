use Rattle.std.proofs.Common.{◌≡◌, drop}
use Rattle.asm_group.specs.Names.{is_same_name}
use Rattle.attribute_values.proofs.setting.is_same.Given as goal

abbrev pub invariant-loop-i : goal.invariant-loop-i
invariant-loop-i l = is_same_name (drop l.i l.name) (drop l.i l.other) ≡ is_same_name l.name l.other
