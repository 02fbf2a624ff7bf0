use Rattle.std.proofs.Common.{false, get_or, refl}
use Rattle.disk_modes.specs.declared.dropping.DropDisk.{DropDisk}
use Rattle.disk_modes.proofs.Naming.{named_all, named_more, none_named}
use Rattle.disk_modes.proofs.dropping.named_by.Goals as goal

pub loop-one-init : goal.loop-one-init
loop-one-init c = none_named c.empty.result c.empty-2.result c.empty.ensures c.empty-2.ensures

pub loop-one-preserved : goal.loop-one-preserved
loop-one-preserved c =
    let none : DropDisk = record { disk = 0; force = false } in
    let i = c.loop-one.one-index in
    named_more c.args.disks.now i none (get_or c.args.disks.now i none) c.loop-one.named.dropping c.loop-one.named.forced c.and_named-named.result.dropping c.and_named-named.result.forced
    c.loop-one-test.true refl c.loop-one.invariant c.and_named-named.ensures.dropping c.and_named-named.ensures.forced

pub returns : goal.returns
returns c = named_all c.args.disks.now c.loop-one.one-index c.loop-one.named.dropping c.loop-one.named.forced c.loop-one-test.false c.loop-one.invariant
