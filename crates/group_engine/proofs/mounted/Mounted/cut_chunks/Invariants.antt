use Rattle.std.specs.Prelude.{Ok}
use Rattle.group_engine.specs.Pending.{EndsOn}
use Rattle.group_engine.proofs.mounted.Mounted.cut_chunks.Given as goal

abbrev pub invariant-loop-i : goal.invariant-loop-i
invariant-loop-i g l = EndsOn l.fn.self (Ok tt) l.self (g.B.Bay.state l.fn.bay) (g.B.Bay.state l.bay)
