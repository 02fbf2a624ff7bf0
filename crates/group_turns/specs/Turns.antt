-- What groups do in their turns, between two commands.
use Rattle.std.specs.Prelude.{◌≡◌, ⊤, List}
use Rattle.asm_group.specs.Names.{Bytes}
use Rattle.asm_formats.specs.Among.{IsAmong}
use Rattle.asm_world.specs.Reply.{Event, Expired, ExpiryEnds, Moved, Synced}
use Rattle.asm_world.specs.Run.{SessionMove, Starts, Expires, Answers, Slices, Rests, Stops, Phase, Expiring, Slicing, mounted_groups, slices_of}
use Rattle.asm_world.specs.Text.{event_text}
use Rattle.asm_world.specs.World.{SessionEntry}
use Rattle.disk_modes.specs.group_engine.Mounts.{MountedGroup}
use Rattle.group_turns.specs.declared.taking.Turn.{Turn}
use Rattle.group_turns.specs.declared.taking.Turn.TheVariants as turn
use Rattle.group_turns.specs.declared.taking.Turned.{Turned}
use Rattle.group_turns.specs.declared.taking.Turned.TheVariants as turned

-- Before a command's text expired disks are dropped, after its reply slices run.
pub data TurnMoment : Type 0 where
  BeforeText : TurnMoment
  AfterReply : TurnMoment

abbrev pub when_of : Turn → TurnMoment
when_of (turn.Expiry now) = BeforeText
when_of turn.Resync = AfterReply
when_of turn.Rebalance = AfterReply

-- where the session stands then
abbrev pub phase_at : TurnMoment → List SessionEntry → Phase
phase_at BeforeText entries = Expiring (mounted_groups entries)
phase_at AfterReply entries = Slicing (slices_of (mounted_groups entries))

-- an event that comes then, as a move
abbrev pub move_at : TurnMoment → Event → SessionMove
move_at BeforeText event = Expires event
move_at AfterReply event = Slices event

-- the event comes then, in the group of a name
abbrev pub IsEventOf : Bytes → TurnMoment → Event → Type 0
IsEventOf name BeforeText (Expired group disk) = group ≡ name
IsEventOf name BeforeText (ExpiryEnds group disk) = group ≡ name
IsEventOf name AfterReply (Moved group how) = group ≡ name
IsEventOf name AfterReply (Synced group disk how) = group ≡ name
IsEventOf name when another = ⊥

-- a move of such a time: an event, or the end for want of memory
abbrev pub IsTurnMove : TurnMoment → SessionMove → Type 0
IsTurnMove BeforeText (Expires event) = ⊤
IsTurnMove AfterReply (Slices event) = ⊤
IsTurnMove when Stops = ⊤
IsTurnMove when another = ⊥

-- the line of an event that comes then, in the group of a name
pub record IsLineOf (name : Bytes) (when : TurnMoment) (line : Bytes) : Type 0 where
  pub event : Event
  pub is_event : IsEventOf name when event
  pub text : line ≡ event_text event

-- the same in one of these groups
pub record HasLine (groups : List MountedGroup) (when : TurnMoment) (line : Bytes) : Type 0 where
  pub group : MountedGroup
  pub among : IsAmong groups group
  pub is_line : IsLineOf group.name when line

-- ---- how a turn ended

-- where nothing was due
abbrev pub OnIdle : Turned → Type 0 → Type 0
OnIdle turned.Idle claim = claim
OnIdle turned.Happened claim = ⊤
OnIdle turned.NoMemory claim = ⊤

-- where something was due
abbrev pub OnWork : Turned → Type 0 → Type 0
OnWork turned.Idle claim = ⊤
OnWork turned.Happened claim = claim
OnWork turned.NoMemory claim = claim

-- where an event came
abbrev pub OnEvent : Turned → Type 0 → Type 0
OnEvent turned.Idle claim = ⊤
OnEvent turned.Happened claim = claim
OnEvent turned.NoMemory claim = ⊤

-- something was due
abbrev pub IsWork : Turned → Type 0
IsWork turned.Idle = ⊥
IsWork turned.Happened = ⊤
IsWork turned.NoMemory = ⊤
