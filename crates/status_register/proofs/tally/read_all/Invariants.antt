use Rattle.std.proofs.Common.{◌≤◌, ◌*◌, length, take}
use Rattle.bay.specs.Image.{Same}
use Rattle.bay.specs.Calls.{Calls, cost}
use Rattle.bay.specs.Told.{Told}
use Rattle.status_register.specs.Surveys.{AreRead, DisksSay}
use Rattle.status_register.specs.Tallies.{IsSlotOf}
use Rattle.status_register.specs.Sayings.{IsOwnRecord}
use Rattle.status_register.proofs.Tallying.{RoseAt}
use Rattle.status_register.proofs.tally.read_all.Given as goal

abbrev pub invariant-loop-member : goal.invariant-loop-member
invariant-loop-member g l = record {
  few : length l.tally.read ≤ l.member-index;
  read : AreRead (RoseAt (g.B.Bay.state l.fn.bay) (g.B.Bay.state l.bay)) (take l.member-index l.members) l.tally.read;
  own : IsOwnRecord l.id l.tally.status;
  says : Told (g.B.Bay.state l.fn.bay) (g.B.Bay.state l.bay) (DisksSay l.id l.tally.read l.tally.epoch l.tally.status l.tally.damage);
  calls : Calls (IsSlotOf l.members) Same (cost (8 * l.member-index) 0) (g.B.Bay.state l.fn.bay) (g.B.Bay.state l.bay);
}
