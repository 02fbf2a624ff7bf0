use Rattle.std.proofs.Common.{IsTrue}
use Rattle.asm_formats.specs.Status.{is_status}
use Rattle.record_laws.specs.group_engine.NextRecords.{KeepsDisks}
use Rattle.disk_modes.proofs.Entries.{IsSoFar}
use Rattle.disk_modes.proofs.records.with_modes.Given as goal

abbrev pub invariant-loop-entry : goal.invariant-loop-entry
invariant-loop-entry l = record {
  status : IsTrue (is_status l.next);
  disks : KeepsDisks l.status l.next;
  so_far : IsSoFar l.new l.status l.entry-index l.next;
}
