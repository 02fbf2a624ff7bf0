use Rattle.std.proofs.Common.{◌≡◌, ◌-◌}
use Rattle.disk_joining.specs.Asking.{first_without}
use Rattle.disk_joining.proofs.asked.free_number.Given as goal

abbrev pub invariant-loop-number : goal.invariant-loop-number
invariant-loop-number l = record {
  so_far : first_without (64 - l.number) l.number l.status.entries ≡ first_without (64 - l.from) l.from l.status.entries;
}
