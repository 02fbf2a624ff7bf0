use Rattle.std.proofs.Common.{◌*◌}
use Rattle.std.specs.Prelude.{min}
use Rattle.bay.specs.Calls.{cost}
use Rattle.bay.specs.Image.{ChangesOnly}
use Rattle.change_directory.specs.Places.{HomesAt}
use Rattle.change_directory.specs.Formatting.{Zeroes}
use Rattle.change_directory.specs.Works.{WentHeld}
use Rattle.change_directory.proofs.erase.zero_with.Given as goal

abbrev pub invariant-loop-piece : goal.invariant-loop-piece
invariant-loop-piece g l = WentHeld l.copy.slot (ChangesOnly (HomesAt l.copy)) (Zeroes l.copy (min (l.piece * 262144) (l.copy.dir_blocks * 4096)))
    (cost l.piece (min (l.piece * 262144) (l.copy.dir_blocks * 4096))) (g.B.Bay.state l.fn.bay) (g.B.Bay.state l.bay)
