use Rattle.std.proofs.Common.{◌<◌, length, arith}
use Rattle.new_groups.proofs.DiskLists.{item_among}
use Rattle.new_groups.proofs.Formed.{long_stays}
use Rattle.new_groups.proofs.Works.{works_none, works_on}
use Rattle.disk_joining.proofs.Headers.{works_one}
use Rattle.disk_joining.proofs.heading.take_headers.Goals as goal

pub take_header-requires : goal.take_header-requires
take_header-requires g c =
    let h = c.index-disks-i.result in
    let inside : c.loop-i.i < length c.args.disks.now = omega arith in
    long_stays c.args.shape c.args.disks.now c.loop-i.invariant.works.attached c.requires.long h (item_among c.args.disks.now c.loop-i.i h inside c.index-disks-i.is)

pub loop-i-init : goal.loop-i-init
loop-i-init g c = record { works = works_none c.args.disks.now (g.B.Bay.state c.args.bay.now) }

pub loop-i-preserved : goal.loop-i-preserved
loop-i-preserved g c =
    let h = c.index-disks-i.result in
    let inside : c.loop-i.i < length c.args.disks.now = omega arith in
    record { works = works_on c.loop-i.invariant.works (works_one h c.args.disks.now (item_among c.args.disks.now c.loop-i.i h inside c.index-disks-i.is) c.take_header.ensures) }

pub returns : goal.returns
returns g c = record { works = c.loop-i.invariant.works }
