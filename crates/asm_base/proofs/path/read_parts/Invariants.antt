use Rattle.std.proofs.Common.{◌≡◌, ◌++◌, length, true}
use Rattle.std.specs.List.{list_all}
use Rattle.asm_group.specs.Names.{is_part}
use Rattle.asm_base.specs.Paths.{parts_behind_slash}
use Rattle.asm_base.proofs.path.read_parts.Given as goal

abbrev pub invariant-loop-slash : goal.invariant-loop-slash
invariant-loop-slash l = record {
  parts : list_all (is_part 80) l.parts ≡ true;
  all : l.parts ++ parts_behind_slash l.left ≡ parts_behind_slash l.bytes;
}

abbrev pub decreases-loop-slash : goal.decreases-loop-slash
decreases-loop-slash l = length l.left
