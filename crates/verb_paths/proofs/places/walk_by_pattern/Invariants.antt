use Rattle.std.proofs.Common.{◌≡◌}
use Rattle.std.specs.Option.{option_copied}
use Rattle.asm_world.specs.Paths.{walk, between_slashes, is_pattern}
use Rattle.verb_paths.specs.Slashes.{parts_left, left_length}
use Rattle.verb_paths.proofs.places.walk_by_pattern.Given as goal

abbrev pub invariant-loop-left : goal.invariant-loop-left
invariant-loop-left l = walk is_pattern l.at (parts_left (option_copied l.left)) ≡ walk is_pattern l.fn.at (between_slashes l.path)

abbrev pub decreases-loop-left : goal.decreases-loop-left
decreases-loop-left l = left_length (option_copied l.left)
