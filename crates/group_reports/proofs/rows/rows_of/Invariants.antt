use Rattle.std.proofs.Common.{◌≡◌, take, map}
use Rattle.asm_formats.specs.Status.{Entry}
use Rattle.asmcmd.specs.Texts as texts
use Rattle.group_reports.specs.Disks.{row_of_disk}
use Rattle.group_reports.proofs.rows.rows_of.Given as goal

abbrev pub invariant-loop-disk : goal.invariant-loop-disk
invariant-loop-disk l = l.rows.items ≡ map (λ (e : Entry). texts.disk_row (row_of_disk l.catalog e)) (take l.disk-index l.disks)
