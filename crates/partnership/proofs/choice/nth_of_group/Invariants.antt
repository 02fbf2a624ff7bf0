use Rattle.partnership.proofs.Rounds.{IsNth}
use Rattle.partnership.proofs.choice.nth_of_group.Given as goal

abbrev pub invariant-loop-disk : goal.invariant-loop-disk
invariant-loop-disk l = IsNth l.disks l.failgroup l.n l.disk-index l.left
