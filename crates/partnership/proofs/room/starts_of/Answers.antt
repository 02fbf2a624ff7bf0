use Rattle.std.proofs.Common.{arith}
use Rattle.partnership.proofs.Starts.{starts_none, starts_more, starts_all}
use Rattle.partnership.proofs.room.starts_of.Goals as goal

pub loop-disk-init : goal.loop-disk-init
loop-disk-init c = (omega arith, starts_none c.args.n c.args.units.now)

pub loop-disk-preserved : goal.loop-disk-preserved
loop-disk-preserved c = (
  omega arith,
  starts_more c.args.n c.args.units.now c.loop-disk.starts c.loop-disk.disk c.index-units-disk.result c.lowest.result (omega arith) (omega arith) c.index-units-disk.is c.lowest.ensures c.loop-disk.invariant.1,
)

pub returns : goal.returns
returns c = starts_all c.args.n c.args.units.now c.loop-disk.starts c.loop-disk.disk c.min-disk-end.result c.min-disk-end.ensures (omega arith) c.loop-disk.invariant.1
