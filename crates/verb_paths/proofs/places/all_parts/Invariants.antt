use Rattle.std.proofs.Common.{◌≡◌, ◌++◌, true}
use Rattle.std.specs.List.{list_all}
use Rattle.std.specs.Option.{option_copied}
use Rattle.asm_group.specs.Names.{is_part}
use Rattle.asm_world.specs.Paths.{between_slashes}
use Rattle.verb_paths.specs.Slashes.{left_length, parts_left}
use Rattle.verb_paths.proofs.places.all_parts.Given as goal

abbrev pub invariant-loop-left : goal.invariant-loop-left
invariant-loop-left l = record {
  parts : list_all (is_part 80) l.parts ≡ true;
  all : l.parts ++ parts_left (option_copied l.left) ≡ between_slashes l.path;
}

abbrev pub decreases-loop-left : goal.decreases-loop-left
decreases-loop-left l = left_length (option_copied l.left)
