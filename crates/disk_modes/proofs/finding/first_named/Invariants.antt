use Rattle.std.proofs.Common.{◌≡◌, drop}
use Rattle.std.specs.Prelude.{find}
use Rattle.disk_modes.specs.Finding.{has_disk_name}
use Rattle.disk_modes.proofs.finding.first_named.Given as goal

abbrev pub invariant-loop-entry : goal.invariant-loop-entry
invariant-loop-entry l = find (has_disk_name l.m.catalog l.name) (drop l.entry-index l.entries) ≡ find (has_disk_name l.m.catalog l.name) l.entries
