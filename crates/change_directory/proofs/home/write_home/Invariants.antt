use Rattle.std.proofs.Common.{◌≤◌, ◌-◌, ◌*◌, length, take}
use Rattle.bay.specs.Calls.{cost}
use Rattle.bay.specs.Image.{ChangesOnly}
use Rattle.change_directory.specs.Homes.{HomesOf, HasHomed}
use Rattle.change_directory.specs.Works.{WentHeld}
use Rattle.change_directory.proofs.home.write_home.Given as goal

abbrev pub decreases-loop-at : goal.decreases-loop-at
decreases-loop-at g l = length l.pages - l.at

abbrev pub invariant-loop-at : goal.invariant-loop-at
invariant-loop-at g l = record {
  below : l.at ≤ length l.pages;
  went : WentHeld l.copy.slot (ChangesOnly (HomesOf l.copy l.pages)) (HasHomed l.copy (take l.at l.pages)) (cost l.at (l.at * 4096))
      (g.B.Bay.state l.fn.bay) (g.B.Bay.state l.bay);
}
