use Rattle.std.proofs.Common.{◌≡◌, take}
use Rattle.group_reports.specs.Listing.{rows_of_nodes}
use Rattle.group_reports.proofs.listing.rows_at.Given as goal

abbrev pub invariant-loop-number : goal.invariant-loop-number
invariant-loop-number l = l.rows.items ≡ rows_of_nodes l.catalog.tables l.group l.pattern (take l.number-index l.numbers)
