use Rattle.std.proofs.Common.{◌≡◌, ◌-◌, length}
use Rattle.status_table.specs.Changes.{free_from, least_free_failgroup}
use Rattle.status_table.proofs.entries.least_free_failgroup.Given as goal

abbrev pub invariant-loop-number : goal.invariant-loop-number
invariant-loop-number l = record {
  so_far : free_from (length l.entries - l.number) l.number l.entries ≡ least_free_failgroup l.entries;
}
