use Rattle.new_groups.specs.Forming.{Works}
use Rattle.disk_joining.proofs.Headers.{ShowFirst}
use Rattle.disk_joining.proofs.heading.give_headers.Given as goal

abbrev pub invariant-loop-i : goal.invariant-loop-i
invariant-loop-i g l = record {
  works : Works l.disks (g.B.Bay.state l.fn.bay) (g.B.Bay.state l.bay);
  show : ShowFirst l.disks l.i (g.B.Bay.state l.bay);
}
