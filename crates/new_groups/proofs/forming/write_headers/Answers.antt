use Rattle.new_groups.proofs.Formed.{headable_stays}
use Rattle.new_groups.proofs.DiskLists.{item_among}
use Rattle.new_groups.proofs.Works.{heading_works, one_cause, works_none, works_on}
use Rattle.new_groups.proofs.forming.write_headers.Goals as goal

pub write_header-requires-clause-header : goal.write_header-requires-clause-header
write_header-requires-clause-header g c =
    (headable_stays c.args.disks.now c.loop-disk.invariant.works.attached c.requires c.disk-item.result (item_among c.args.disks.now c.loop-disk.disk-index c.disk-item.result c.loop-disk-test.true c.disk-item.is)).header

pub write_header-requires-clause-disk : goal.write_header-requires-clause-disk
write_header-requires-clause-disk g c =
    (headable_stays c.args.disks.now c.loop-disk.invariant.works.attached c.requires c.disk-item.result (item_among c.args.disks.now c.loop-disk.disk-index c.disk-item.result c.loop-disk-test.true c.disk-item.is)).place

pub loop-disk-init : goal.loop-disk-init
loop-disk-init g c = record { works = works_none c.args.disks.now (g.B.Bay.state c.args.bay.now) }

pub loop-disk-preserved : goal.loop-disk-preserved
loop-disk-preserved g c =
    let call = c.write_header.ensures.call.calls in
    record { works = works_on c.loop-disk.invariant.works (heading_works c.disk-item.result c.args.disks.now (item_among c.args.disks.now c.loop-disk.disk-index c.disk-item.result c.loop-disk-test.true c.disk-item.is) _ _ call.attached call.runs) }

pub returns-in-Err-clause-works : goal.returns-in-Err-clause-works
returns-in-Err-clause-works g c =
    let call = c.write_header.ensures.call.calls in
    works_on c.loop-disk.invariant.works (heading_works c.disk-item.result c.args.disks.now (item_among c.args.disks.now c.loop-disk.disk-index c.disk-item.result c.loop-disk-test.true c.disk-item.is) _ _ call.attached call.runs)

pub returns-in-Err-clause-cause : goal.returns-in-Err-clause-cause
returns-in-Err-clause-cause g c =
    one_cause c.disk-item.result c.args.disks.now (item_among c.args.disks.now c.loop-disk.disk-index c.disk-item.result c.loop-disk-test.true c.disk-item.is) (g.B.Bay.state c.write_header.new.bay) c.loop-disk.invariant.works c.in-Err.ensures.call.cause

pub returns-clause-works : goal.returns-clause-works
returns-clause-works g c = c.loop-disk.invariant.works
