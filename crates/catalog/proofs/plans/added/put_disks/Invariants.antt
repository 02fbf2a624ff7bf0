use Rattle.std.proofs.Common.{◌≡◌, ◌++◌, map, take}
use Rattle.plan_records.specs.disk_directory.Disks.{record_of_disk}
use Rattle.catalog.proofs.plans.added.put_disks.Given as goal

abbrev pub invariant-loop-number : goal.invariant-loop-number
invariant-loop-number l = l.put ≡ l.fn.put ++ map record_of_disk (take l.number-index l.added)
