use Rattle.std.proofs.Common.{◌≡◌, ◌++◌, map, take}
use Rattle.session.specs.Sessions.{taken_of}
use Rattle.session.proofs.holding.put_taken.Given as goal

abbrev pub invariant-loop-entry : goal.invariant-loop-entry
invariant-loop-entry l = l.taken.items ≡ l.initial.taken.items ++ map (taken_of l.status.id) (take l.entry-index l.status.entries)
