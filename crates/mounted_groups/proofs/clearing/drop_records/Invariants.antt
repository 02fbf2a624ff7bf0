use Rattle.std.specs.Prelude.{Ok}
use Rattle.group_engine.specs.Pending.{EndsOn}
use Rattle.mounted_groups.specs.Clearing.{HaveDropped}
use Rattle.mounted_groups.proofs.clearing.drop_records.Given as goal

abbrev pub invariant-loop-number : goal.invariant-loop-number
invariant-loop-number g l = record {
  ends : EndsOn l.fn.m (Ok tt) l.m (g.B.Bay.state l.fn.bay) (g.B.Bay.state l.bay);
  dropped : HaveDropped l.fn.m.register.value.entries l.fn.m.catalog.tables l.number l.m.catalog.tables;
}
