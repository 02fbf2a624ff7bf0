use Rattle.std.proofs.Common.{◌≡◌, ◌≤◌, length, take, filter}
use Rattle.partnership.specs.Selections.{is_meant}
use Rattle.partnership.proofs.disks.Disks.of.Given as goal

abbrev pub invariant-loop-disk : goal.invariant-loop-disk
invariant-loop-disk l = record {
  found : l.found ≡ filter (is_meant l.which) (take l.disk-index l.disks);
  few : length l.found ≤ l.disk-index;
}
