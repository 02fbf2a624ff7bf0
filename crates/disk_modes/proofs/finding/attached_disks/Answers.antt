use Rattle.disk_modes.proofs.Found.{all_attached, none_attached, one_attached}
use Rattle.disk_modes.proofs.finding.attached_disks.Goals as goal

pub loop-disk-init : goal.loop-disk-init
loop-disk-init c = none_attached c.args.m.now c.empty-disks.result c.empty-disks.ensures

pub loop-disk-preserved : goal.loop-disk-preserved
loop-disk-preserved c = one_attached c.args.m.now c.loop-disk.disk c.loop-disk.disks c.with_if-disks.result c.is_attached.result c.is_attached.ensures c.with_if-disks.ensures c.loop-disk.invariant

pub returns : goal.returns
returns c = all_attached c.args.m.now c.loop-disk.disk c.loop-disk.disks c.loop-disk-test.false c.loop-disk.invariant
