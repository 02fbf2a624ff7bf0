use Rattle.disk_modes.proofs.Resized.{all_below, none_below, one_below}
use Rattle.disk_modes.proofs.resizing.with_asked.Goals as goal

pub loop-disk-init : goal.loop-disk-init
loop-disk-init c = none_below c.args.m.now c.args.asked.now c.args.status.now c.copy-next.result c.copy-next.ensures

pub loop-disk-preserved : goal.loop-disk-preserved
loop-disk-preserved c = one_below c.args.m.now c.args.asked.now c.args.status.now c.loop-disk.next c.with_disk_asked-next.result c.loop-disk.disk c.loop-disk.invariant c.with_disk_asked-next.ensures

pub returns : goal.returns
returns c = all_below c.args.m.now c.args.asked.now c.args.status.now c.loop-disk.next c.loop-disk.disk c.requires c.loop-disk-test.false c.loop-disk.invariant
