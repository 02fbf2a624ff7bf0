use Rattle.std.proofs.Common.{◌≤◌, ◌<◌, ◌+◌, ◌*◌, ℕ, length}
use Rattle.bay.specs.Image.{Same}
use Rattle.bay.specs.Moments.{Runs}
use Rattle.mounted_groups.specs.Found.{counts_of, AreIdsRead, AreAllRead}
use Rattle.mounted_groups.specs.Probes.{IsShown}
use Rattle.group_engine.specs.Frames.{StaysAttached}
use Rattle.mounted_groups.proofs.find.look_at_all.Given as goal

abbrev pub invariant-loop-slot : goal.invariant-loop-slot
invariant-loop-slot g l = record {
  calls : (g.B.Bay.state l.bay).calls ≤ (g.B.Bay.state l.fn.bay).calls + 3 * l.slot;
  runs : Runs (λ (s : ℕ). s < length l.paths) Same (g.B.Bay.state l.fn.bay) (g.B.Bay.state l.bay);
  ids : AreIdsRead l.ids.items (counts_of (g.B.Bay.state l.fn.bay)) (counts_of (g.B.Bay.state l.bay));
  all : AreAllRead l.slot l.ids.items (counts_of (g.B.Bay.state l.fn.bay)) (counts_of (g.B.Bay.state l.bay));
  shown : l.wanted < l.slot → IsShown l.wanted l.found (counts_of (g.B.Bay.state l.fn.bay)) (counts_of (g.B.Bay.state l.bay));
  stays : StaysAttached (g.B.Bay.state l.fn.bay) (g.B.Bay.state l.bay);
}
