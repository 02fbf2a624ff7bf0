use Rattle.new_groups.specs.Forming.{Works}
use Rattle.new_groups.proofs.forming.write_headers.Given as goal

abbrev pub invariant-loop-disk : goal.invariant-loop-disk
invariant-loop-disk g l = record {
  works : Works l.disks (g.B.Bay.state l.fn.bay) (g.B.Bay.state l.bay);
}
