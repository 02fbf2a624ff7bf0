use Rattle.std.proofs.Common.{◌<◌, length, arith}
use Rattle.new_groups.proofs.DiskLists.{item_among}
use Rattle.new_groups.proofs.Formed.{headable_stays, long_stays}
use Rattle.new_groups.proofs.Works.{works_none, works_on}
use Rattle.disk_joining.proofs.Adds.{failed_before}
use Rattle.disk_joining.proofs.Headers.{show_all, show_more, works_one}
use Rattle.disk_joining.proofs.heading.give_headers.Goals as goal

pub give_header-requires-clause-region : goal.give_header-requires-clause-region
give_header-requires-clause-region g c =
    let h = c.index-disks-i.result in
    let inside : c.loop-i.i < length c.args.disks.now = omega arith in
    long_stays c.args.shape c.args.disks.now c.loop-i.invariant.works.attached c.requires.long h (item_among c.args.disks.now c.loop-i.i h inside c.index-disks-i.is)

pub give_header-requires-clause-header : goal.give_header-requires-clause-header
give_header-requires-clause-header g c =
    let h = c.index-disks-i.result in
    let inside : c.loop-i.i < length c.args.disks.now = omega arith in
    headable_stays c.args.disks.now c.loop-i.invariant.works.attached c.requires.headers h (item_among c.args.disks.now c.loop-i.i h inside c.index-disks-i.is)

pub loop-i-init : goal.loop-i-init
loop-i-init g c = record { works = works_none c.args.disks.now (g.B.Bay.state c.args.bay.now); show = λ j h below at. absurd (omega arith) }

pub loop-i-preserved : goal.loop-i-preserved
loop-i-preserved g c =
    let h = c.index-disks-i.result in
    let inside : c.loop-i.i < length c.args.disks.now = omega arith in
    record {
      works = works_on c.loop-i.invariant.works (works_one h c.args.disks.now (item_among c.args.disks.now c.loop-i.i h inside c.index-disks-i.is) c.give_header.ensures.works);
      show = show_more c.args.disks.now c.loop-i.i h c.requires.apart inside c.index-disks-i.is c.give_header.ensures.works c.in-Ok.ensures.shows c.loop-i.invariant.show;
    }

pub returns-in-Err-clause-works : goal.returns-in-Err-clause-works
returns-in-Err-clause-works g c =
    let h = c.index-disks-i.result in
    let inside : c.loop-i.i < length c.args.disks.now = omega arith in
    works_on c.loop-i.invariant.works (works_one h c.args.disks.now (item_among c.args.disks.now c.loop-i.i h inside c.index-disks-i.is) c.give_header.ensures.works)

pub returns-in-Err-clause-cause : goal.returns-in-Err-clause-cause
returns-in-Err-clause-cause g c = failed_before (g.B.Bay.state c.give_header.new.bay) c.loop-i.invariant.works.runs c.in-Err.ensures.cause

pub returns-clause-works : goal.returns-clause-works
returns-clause-works g c = c.loop-i.invariant.works

pub returns-clause-show : goal.returns-clause-show
returns-clause-show g c = show_all c.args.disks.now c.loop-i.i _ (omega arith) c.loop-i.invariant.show
