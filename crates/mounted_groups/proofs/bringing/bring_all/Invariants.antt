use Rattle.std.specs.Prelude.{Ok}
use Rattle.mounted_groups.specs.Bringing.{BringsCopiesUp}
use Rattle.mounted_groups.proofs.bringing.bring_all.Given as goal

abbrev pub invariant-loop-disk : goal.invariant-loop-disk
invariant-loop-disk g l = BringsCopiesUp g.B.Bay.state l.disks l.disk l.disk l.fn.m (Ok tt) l.m (g.B.Bay.state l.fn.bay) (g.B.Bay.state l.bay)
