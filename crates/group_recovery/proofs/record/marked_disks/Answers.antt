use Rattle.std.proofs.Common.{arith}
use Rattle.group_recovery.proofs.NextRecords.{no_bits}
use Rattle.group_recovery.proofs.record.marked_disks.Goals as goal

pub loop-disk-init : goal.loop-disk-init
loop-disk-init c = record {
  marks = λ d lt has. absurd (omega (arith, lt));
  none = λ d low high. no_bits c.empty-set.result c.empty-set.ensures d;
}
