use Rattle.std.proofs.Common.{◌≡◌, drop}
use Rattle.std.specs.List.{list_all}
use Rattle.asm_group.specs.Names.{is_part}
use Rattle.alias_edits.proofs.editing.are_parts.Given as goal

abbrev pub invariant-loop-part : goal.invariant-loop-part
invariant-loop-part l = list_all (is_part 80) (drop l.part-index l.parts) ≡ list_all (is_part 80) l.parts
