use Rattle.std.proofs.Common.{◌≡◌, drop}
use Rattle.resync.specs.Syncing.{first_syncing}
use Rattle.resync.proofs.slice.first_syncing.Given as goal

abbrev pub invariant-loop-entry : goal.invariant-loop-entry
invariant-loop-entry l = first_syncing (drop l.entry-index l.entries) ≡ first_syncing l.entries
