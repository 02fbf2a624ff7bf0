use Rattle.std.proofs.Common.{◌≤◌, ◌+◌, take}
use Rattle.bay.specs.Image.{Same}
use Rattle.bay.specs.State.{KeepsAttached}
use Rattle.bay.specs.Moments.{Runs}
use Rattle.status_register.specs.Tallies.{IsSlotOf}
use Rattle.group_recovery.specs.Syncing.{AreSynced}
use Rattle.group_recovery.proofs.syncing.sync_all.Given as goal

abbrev pub invariant-loop-member : goal.invariant-loop-member
invariant-loop-member g l = record {
  synced : AreSynced (take l.member-index l.members) l.synced.items (g.B.Bay.state l.fn.bay) (g.B.Bay.state l.bay);
  calls : (g.B.Bay.state l.bay).calls ≤ (g.B.Bay.state l.fn.bay).calls + l.member-index;
  attached : KeepsAttached (g.B.Bay.state l.fn.bay) (g.B.Bay.state l.bay);
  runs : Runs (IsSlotOf l.members) Same (g.B.Bay.state l.fn.bay) (g.B.Bay.state l.bay);
}
