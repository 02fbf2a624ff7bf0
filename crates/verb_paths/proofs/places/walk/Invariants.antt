use Rattle.std.proofs.Common.{◌≡◌}
use Rattle.std.specs.Option.{option_copied}
use Rattle.asm_group.specs.Names.{is_part}
use Rattle.asm_world.specs.Paths.{walk, between_slashes}
use Rattle.verb_paths.specs.Slashes.{parts_left, left_length}
use Rattle.verb_paths.proofs.places.walk.Given as goal

abbrev pub invariant-loop-left : goal.invariant-loop-left
invariant-loop-left l = walk (is_part 80) l.at (parts_left (option_copied l.left)) ≡ walk (is_part 80) l.fn.at (between_slashes l.path)

abbrev pub decreases-loop-left : goal.decreases-loop-left
decreases-loop-left l = left_length (option_copied l.left)
