use Rattle.std.proofs.Common.{◌≡◌, ◌≤◌, length}
use Rattle.catalog_tables.specs.Faults.{IsCatalog}
use Rattle.group_tests.specs.Commits.{PutsNone}
use Rattle.group_tests.proofs.calls.changes.heads_change.Given as goal

abbrev pub invariant-loop-i : goal.invariant-loop-i
invariant-loop-i l = PutsNone l.catalog.tables l.change.put l.change.gone × (length l.change.put ≡ l.i) × (length l.change.gone ≡ l.i)
