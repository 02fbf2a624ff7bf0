-- Why what a statement waits for is refused, by the group as it is left.
use Rattle.std.specs.Prelude.{◌≡◌, ⊤, [], IfErr, IfOk, IfSome, Option, Some, None, Result, Ok, Err}
use Rattle.refusal_lines.specs.Refusals.{meaning_of}
use Rattle.refusal_lines.specs.declared.refusal.Refusal.{Refusal}
use Rattle.refusal_lines.specs.declared.refusal.Refusal.TheVariants as cause
use Rattle.asm_group.specs.Names.{Bytes}
use Rattle.asm_group.specs.Refusal as r
use Rattle.session.specs.group_engine.Mounts.{MountedGroup}
use Rattle.session.specs.relocation.Shortfalls.{HasNoDiskFor, HasNoSource}
use Rattle.session.specs.relocation.declared.asking.Slice.{Slice}
use Rattle.session.specs.relocation.declared.asking.Slice.TheVariants as slice
use Rattle.session.specs.Entries.{disk_name}
use Rattle.session.specs.Naming.{group_among}
use Rattle.session.specs.Sessions.{SessionView}
use Rattle.session.specs.declared.reply.Reply.{Reply}
use Rattle.session.specs.declared.reply.Reply.TheVariants as reply
use Rattle.disk_commands.specs.declared.waiting.Waited.{Waited}

-- of NoSpace and Lost: by the group's tables and record no disk can take a copy of the extent that is to be elsewhere, or no copy of it
-- can be read
abbrev pub ShortCause : MountedGroup → r.Refusal → Type 0
ShortCause m (r.NoSpace file index) = HasNoDiskFor m (record { file = file; index = index })
ShortCause m (r.Lost file index) = HasNoSource m (record { file = file; index = index })
ShortCause m another = ⊤

-- ---- a rebalance to its end

-- the refusal that tells how a rebalance ended
abbrev pub refusal_of_rebalance : Result Slice Refusal → Option Refusal
refusal_of_rebalance (Ok slice.More) = None
refusal_of_rebalance (Ok slice.Done) = None
refusal_of_rebalance (Ok (slice.NoSpace extent)) = Some (cause.NoSpace extent)
refusal_of_rebalance (Ok (slice.Lost extent)) = Some (cause.Lost extent)
refusal_of_rebalance (Err refusal) = Some refusal

-- neither NoSpace nor Lost
abbrev pub IsNoShortfall : Refusal → Type 0
IsNoShortfall (cause.NoSpace extent) = ⊥
IsNoShortfall (cause.Lost extent) = ⊥
IsNoShortfall another = ⊤

-- the refusal, with the names of the group's disks, has its cause in the group
abbrev pub HasShortCause : MountedGroup → Refusal → Type 0
HasShortCause m refusal = ShortCause m (meaning_of (disk_name m) refusal)

-- the refusal with which what was waited for ended, if there is one, has its cause in the group: its disks are spelt already
abbrev pub HasWaited : MountedGroup → Waited → Type 0
HasWaited m waited = IfSome waited.refusal (λ refusal. ShortCause m (meaning_of (λ _. []) refusal))

-- A rebalance went to its end, or memory was wanting.
pub record WaitsForRebalance (result : Result Waited Refusal) (new : MountedGroup) : Type 0 where
  pub waited : IfOk result (HasWaited new)
  pub short : IfErr result (λ refusal. refusal ≡ cause.NoMemory)

-- ---- statements

-- The group of the name is left with the cause of the refusal.
pub record IsLeftShort (now : SessionView) (name : Bytes) (refusal : r.Refusal) : Type 0 where
  pub group : MountedGroup
  pub named : group_among now.entries now.groups name ≡ Some group
  pub cause : ShortCause group refusal

-- NoSpace and Lost come where the group of the name is left so
abbrev pub WaitCause : SessionView → Bytes → r.Refusal → Type 0
WaitCause now name (r.NoSpace file index) = IsLeftShort now name (r.NoSpace file index)
WaitCause now name (r.Lost file index) = IsLeftShort now name (r.Lost file index)
WaitCause now name another = ⊤

-- the refusal, if it is one
abbrev pub refusal_in : Result (Unit {0}) Refusal → Option Refusal
refusal_in (Ok done) = None
refusal_in (Err refusal) = Some refusal

-- the refusal with which a wait ended
abbrev pub refused_after : Reply → Option Refusal
refused_after (reply.Done lines) = None
refused_after (reply.Refused refusal) = None
refused_after (reply.RefusedAfter lines refusal) = Some refusal

-- it has its cause in the group of the name
abbrev pub ReplyWaited : SessionView → Bytes → Reply → Type 0
ReplyWaited now name reply = IfSome (refused_after reply) (λ refusal. WaitCause now name (meaning_of (λ _. []) refusal))
