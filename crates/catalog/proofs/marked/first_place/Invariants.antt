use Rattle.std.proofs.Common.{◌≡◌, ◌<◌, ◌≤◌, ℕ, false, get_or, []}
use Rattle.plan_records.specs.catalog_tables.MarkedExtents.{has_stale_on}
use Rattle.catalog.proofs.marked.first_place.Given as goal

abbrev pub invariant-loop-place : goal.invariant-loop-place
invariant-loop-place l = (q : ℕ) → l.from ≤ q → q < l.place → has_stale_on l.disk (get_or l.marks q 0, get_or l.homes q []) ≡ false
