use Rattle.new_groups.proofs.Formed.{long_stays}
use Rattle.new_groups.proofs.DiskLists.{item_among}
use Rattle.new_groups.proofs.Works.{closing_works, one_cause, works_none, works_on}
use Rattle.new_groups.proofs.forming.close_all.Goals as goal

pub close_gates-requires-clause-region : goal.close_gates-requires-clause-region
close_gates-requires-clause-region g c =
    long_stays c.args.shape c.args.disks.now c.loop-disk.invariant.works.attached c.requires.long c.disk-item.result (item_among c.args.disks.now c.loop-disk.disk-index c.disk-item.result c.loop-disk-test.true c.disk-item.is)

pub loop-disk-init : goal.loop-disk-init
loop-disk-init g c = record { works = works_none c.args.disks.now (g.B.Bay.state c.args.bay.now) }

pub loop-disk-preserved : goal.loop-disk-preserved
loop-disk-preserved g c =
    let call = c.close_gates.ensures.call.calls in
    record { works = works_on c.loop-disk.invariant.works (closing_works c.disk-item.result c.args.disks.now (item_among c.args.disks.now c.loop-disk.disk-index c.disk-item.result c.loop-disk-test.true c.disk-item.is) c.args.shape.sector c.args.shape.dir_blocks call.attached call.runs) }

pub returns-in-Err-clause-works : goal.returns-in-Err-clause-works
returns-in-Err-clause-works g c =
    let call = c.close_gates.ensures.call.calls in
    works_on c.loop-disk.invariant.works (closing_works c.disk-item.result c.args.disks.now (item_among c.args.disks.now c.loop-disk.disk-index c.disk-item.result c.loop-disk-test.true c.disk-item.is) c.args.shape.sector c.args.shape.dir_blocks call.attached call.runs)

pub returns-in-Err-clause-cause : goal.returns-in-Err-clause-cause
returns-in-Err-clause-cause g c =
    one_cause c.disk-item.result c.args.disks.now (item_among c.args.disks.now c.loop-disk.disk-index c.disk-item.result c.loop-disk-test.true c.disk-item.is) (g.B.Bay.state c.close_gates.new.bay) c.loop-disk.invariant.works c.in-Err.ensures.call.cause

pub returns-clause-works : goal.returns-clause-works
returns-clause-works g c = c.loop-disk.invariant.works
