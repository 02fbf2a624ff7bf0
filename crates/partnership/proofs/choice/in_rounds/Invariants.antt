use Rattle.partnership.specs.Rounds.{none_of}
use Rattle.partnership.proofs.Rounds.{AreRounds}
use Rattle.partnership.proofs.choice.in_rounds.Given as goal

abbrev pub invariant-loop-k : goal.invariant-loop-k
invariant-loop-k l = AreRounds (none_of l.count) l.rounds l.quorum l.regular l.choice l.k
