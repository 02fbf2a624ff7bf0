use Rattle.std.proofs.Common.{◌≡◌, take, drop}
use Rattle.std.specs.List.{list_all}
use Rattle.asm_group.specs.Names.{is_part}
use Rattle.group_reports.proofs.places.parts_of.Given as goal

abbrev pub invariant-loop-text : goal.invariant-loop-text
invariant-loop-text l = record {
  parts : l.parts ≡ take l.text-index l.texts;
  all : list_all (is_part 80) (drop l.text-index l.texts) ≡ list_all (is_part 80) l.texts;
}
