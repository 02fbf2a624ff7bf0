use Rattle.std.proofs.Common.{◌≡◌, ℕ, ◌<◌, ◌≤◌, true, false}
use Rattle.asm_formats.specs.Sets.{has_bit}
use Rattle.group_recovery.specs.NextRecord.{IsMarkOf, has_entry_of_disk}
use Rattle.group_recovery.proofs.record.marked_disks.Given as goal

abbrev pub invariant-loop-disk : goal.invariant-loop-disk
invariant-loop-disk l = record {
  marks : (d : ℕ) → d < l.disk → has_entry_of_disk l.entries d ≡ true → IsMarkOf l.catalog.tables d (has_bit l.set d);
  none : (d : ℕ) → l.disk ≤ d → d < 64 → has_bit l.set d ≡ false;
}
