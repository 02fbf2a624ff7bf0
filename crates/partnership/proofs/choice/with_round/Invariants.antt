use Rattle.partnership.proofs.Rounds.{IsRound}
use Rattle.partnership.proofs.choice.with_round.Given as goal

abbrev pub invariant-loop-i : goal.invariant-loop-i
invariant-loop-i l = IsRound l.fn.from l.k l.disks l.choice l.i
