use Rattle.std.proofs.Common.{◌≡◌, drop}
use Rattle.std.specs.Prelude.{find, ◌&&◌}
use Rattle.asm_formats.specs.Status.{Entry}
use Rattle.group_reports.specs.Disks.{is_repair_time_up, may_go, number_of_entry_if_any}
use Rattle.group_reports.proofs.expiry.first_expiring.Given as goal

abbrev pub invariant-loop-disk : goal.invariant-loop-disk
invariant-loop-disk l = number_of_entry_if_any (find (λ (e : Entry). is_repair_time_up l.now e && may_go l.catalog l.status e.number) (drop l.disk-index l.disks)) ≡ number_of_entry_if_any (find (λ (e : Entry). is_repair_time_up l.now e && may_go l.catalog l.status e.number) l.disks)
