-- What events of the code are of the world's.
use Rattle.std.specs.Prelude.{List}
use Rattle.asm_group.specs.Names.{Bytes}
use Rattle.asm_group.specs.Refusal.{Refusal}
use Rattle.asm_world.specs.Reply as w
use Rattle.event_lines.specs.declared.event.Event.{Event}
use Rattle.event_lines.specs.declared.event.Event.TheVariants as event
use Rattle.event_lines.specs.declared.event.Rebalanced.{Rebalanced}
use Rattle.event_lines.specs.declared.event.Rebalanced.TheVariants as move
use Rattle.event_lines.specs.declared.event.Resynced.{Resynced}
use Rattle.event_lines.specs.declared.event.Resynced.TheVariants as sync
use Rattle.event_lines.specs.declared.short.Outcome.{Outcome}
use Rattle.event_lines.specs.declared.short.Outcome.TheVariants as outcome

abbrev pub rebalanced_said : Rebalanced → w.Rebalanced
rebalanced_said (move.MovesLeft steps) = w.MovesLeft steps
rebalanced_said (move.Finished steps) = w.Finished steps
rebalanced_said (move.OutOfSpace steps extent) = w.OutOfSpace steps extent.file extent.index
rebalanced_said (move.LostExtent steps extent) = w.LostExtent steps extent.file extent.index
rebalanced_said (move.MoveFault steps disk) = w.MoveFault steps disk.now
rebalanced_said (move.MoveEnds disk) = w.MoveEnds disk.now

abbrev pub resynced_said : Resynced → w.Resynced
resynced_said (sync.MarksLeft steps) = w.MarksLeft steps
resynced_said (sync.Back steps) = w.Back steps
resynced_said (sync.LeftMarked extent) = w.LeftMarked extent.file extent.index
resynced_said (sync.SyncFault steps disk) = w.SyncFault steps disk.now
resynced_said (sync.SyncEnds disk) = w.SyncEnds disk.now

abbrev pub event_said : Event → w.Event
event_said (event.Expired group disk) = w.Expired group.now disk.now
event_said (event.ExpiryEnds group disk) = w.ExpiryEnds group.now disk.now
event_said (event.Moved group how) = w.Moved group.now (rebalanced_said how)
event_said (event.Synced group disk how) = w.Synced group.now disk.now (resynced_said how)

-- a reply that ended so, with these lines and this cause
abbrev pub reply_said : List Bytes → Refusal → Outcome → w.Reply
reply_said lines cause outcome.Done = w.Done lines
reply_said lines cause outcome.Refused = w.Refused lines cause
