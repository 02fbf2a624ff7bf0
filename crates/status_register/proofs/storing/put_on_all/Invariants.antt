use Rattle.std.proofs.Common.{◌≤◌, length, take}
use Rattle.bay.specs.Calls.{Calls}
use Rattle.bay.specs.Moments.{Ends}
use Rattle.status_register.specs.Rows.{HaveBody, PutsInOrder, cost_of_puts}
use Rattle.status_register.specs.Slots.{first_gate, next_gate, second_gate}
use Rattle.status_register.specs.Surveys.{AreRead}
use Rattle.status_register.specs.Tallies.{IsSlotOf}
use Rattle.status_register.proofs.Ordering.{AreTried}
use Rattle.status_register.proofs.Tallying.{RoseAt}
use Rattle.status_register.proofs.storing.put_on_all.Given as goal

abbrev pub invariant-loop-member : goal.invariant-loop-member
invariant-loop-member g l = record {
  few : length l.took ≤ l.member-index;
  took : AreRead (RoseAt (g.B.Bay.state l.fn.bay) (g.B.Bay.state l.bay)) (take l.member-index l.members) l.took;
  done : Ends (HaveBody (first_gate l.pair) (second_gate l.pair) l.body.bytes l.took) (g.B.Bay.state l.fn.bay) (g.B.Bay.state l.bay);
  tried : Ends (AreTried (next_gate l.pair l.id) l.body.bytes (RoseAt (g.B.Bay.state l.fn.bay) (g.B.Bay.state l.bay)) (take l.member-index l.members)) (g.B.Bay.state l.fn.bay) (g.B.Bay.state l.bay);
  calls : Calls (IsSlotOf l.members) (PutsInOrder (next_gate l.pair l.id) l.body.bytes (RoseAt (g.B.Bay.state l.fn.bay) (g.B.Bay.state l.bay)) (take l.member-index l.members)) (cost_of_puts l.member-index) (g.B.Bay.state l.fn.bay) (g.B.Bay.state l.bay);
}
