use Rattle.std.proofs.Common.{◌≡◌, IsTrue}
use Rattle.asm_formats.specs.Status.{is_status}
use Rattle.group_pieces.specs.Failing.{status_failed}
use Rattle.group_pieces.proofs.failing.without_disks.Given as goal

abbrev pub invariant-loop-disk : goal.invariant-loop-disk
invariant-loop-disk l = record {
  status : IsTrue (is_status l.next);
  value : l.next ≡ status_failed l.status l.failed l.disk l.since l.repair;
}
