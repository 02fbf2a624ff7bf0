use Rattle.std.proofs.Common.{take}
use Rattle.asm_formats.specs.Status.{is_offline_entry}
use Rattle.disk_modes.specs.Finding.{IsSetOf}
use Rattle.disk_modes.proofs.finding.all_offline.Given as goal

abbrev pub invariant-loop-entry : goal.invariant-loop-entry
invariant-loop-entry l = IsSetOf is_offline_entry (take l.entry-index l.entries) l.disks
