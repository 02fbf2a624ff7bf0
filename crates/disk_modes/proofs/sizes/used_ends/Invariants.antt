use Rattle.disk_modes.proofs.Ends.{HasWalked}
use Rattle.disk_modes.proofs.sizes.used_ends.Given as goal

abbrev pub invariant-loop-at : goal.invariant-loop-at
invariant-loop-at l = HasWalked l.catalog l.at-iterator l.ends
