use Rattle.std.proofs.Common.{take}
use Rattle.std.specs.Prelude.{All}
use Rattle.group_engine.specs.Trying.{IsRightCopy}
use Rattle.group_engine.proofs.mounted.Mounted.are_right_copies.Given as goal

abbrev pub invariant-loop-copy : goal.invariant-loop-copy
invariant-loop-copy l = All (IsRightCopy l.fn.self l.fn.next) (take l.copy-index l.copy-items)
