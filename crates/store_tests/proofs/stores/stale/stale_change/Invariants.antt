use Rattle.std.proofs.Common.{◌≡◌, ◌≤◌, length, []}
use Rattle.directory_store.specs.Contents.{ArePutItems}
use Rattle.store_tests.proofs.stores.stale.stale_change.Given as goal

abbrev pub invariant-loop-i : goal.invariant-loop-i
invariant-loop-i l = ArePutItems l.change.put × (length l.change.put ≤ l.i) × (l.change.gone ≡ [])
