use Rattle.std.proofs.Common.{◌∙◌, IsTrue, sym, subst}
use Rattle.asm_formats.specs.Status.{Status, is_status}
use Rattle.group_pieces.proofs.Failed.{failed_more, failed_none, failed_same}
use Rattle.group_pieces.proofs.failing.without_disks.Goals as goal
use Rattle.group_pieces.proofs.failing.without_disks.Goals.{then-has, else-has}

pub loop-disk-init : goal.loop-disk-init
loop-disk-init c = record {
  status = subst (λ (r : Status). IsTrue (is_status r)) (sym c.copy-next.ensures) c.requires;
  value = c.copy-next.ensures ∙ failed_none c.args.failed c.args.since c.args.repair c.args.status.now;
}

pub loop-disk-preserved : goal.loop-disk-preserved
loop-disk-preserved c = elim c.if-has.branch [
  | then-has w ↦ record {
    status = subst (λ (r : Status). IsTrue (is_status r)) (sym w.next-is) (w.with_offline-next.ensures.kept c.loop-disk.invariant.status);
    value = w.next-is ∙ w.with_offline-next.ensures.value
        ∙ failed_more c.args.failed c.args.since c.args.repair c.args.status.now c.loop-disk.next c.loop-disk.disk c.loop-disk.invariant.value (sym c.has.ensures ∙ w.if-has.true);
  }
  | else-has w ↦ record {
    status = subst (λ (r : Status). IsTrue (is_status r)) (sym w.next-is) c.loop-disk.invariant.status;
    value = w.next-is ∙ failed_same c.args.failed c.args.since c.args.repair c.args.status.now c.loop-disk.next c.loop-disk.disk c.loop-disk.invariant.value (sym c.has.ensures ∙ w.if-has.false);
  }
]
