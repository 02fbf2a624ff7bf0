use Rattle.std.proofs.Common.{◌≡◌, drop}
use Rattle.group_reports.specs.Disks.{syncing}
use Rattle.group_reports.proofs.expiry.first_syncing.Given as goal

abbrev pub invariant-loop-disk : goal.invariant-loop-disk
invariant-loop-disk l = syncing (drop l.disk-index l.disks) ≡ syncing l.disks
