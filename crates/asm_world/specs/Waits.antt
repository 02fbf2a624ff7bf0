-- The lines of a statement under WAIT, which come before its last line.
use Rattle.std.specs.Prelude.{◌≡◌, ◌⊎◌, ⊤, ℕ, List, [], ◌∷◌, ◌++◌, map, Some, None, All, if◌then◌else◌}
use Rattle.std.specs.List.{filter_map}
use Rattle.asm_group.specs.Names.{Bytes}
use Rattle.asm_group.specs.Refusal as r
use Rattle.asm_world.specs.Below.{Below}
use Rattle.asm_group.specs.Modes.{is_offline}
use Rattle.asm_world.specs.Causes.{rows_in, rows_among, rows_of_failgroup}
use Rattle.asm_world.specs.Command as c
use Rattle.asm_world.specs.Reply.{Reply, Done, Refused, Rebalanced, Finished, OutOfSpace, LostExtent, MoveFault, MoveEnds, Resynced, Back, LeftMarked, SyncFault, SyncEnds, Moved, Synced}
use Rattle.asm_world.specs.Reports.{DiskRow}
use Rattle.asm_world.specs.Statement as s
use Rattle.asm_world.specs.Text.{event_line}
use Rattle.asm_world.specs.Waiting.{Wait, Nothing, Rebalance, Resync, wait_of}
use Rattle.asm_world.specs.World.{World, entry_in}

-- the disks that ONLINE takes, by number
abbrev pub disks_taken : List DiskRow → s.NamedDisks → List DiskRow
disks_taken rows (s.Named names) = rows_among rows names
disks_taken rows (s.InFailgroup kind name) = rows_of_failgroup rows kind name
disks_taken rows s.All = filter_map (λ (row : DiskRow). if is_offline row.mode then Some row else None) rows

-- the refusal by which a rebalance ends
abbrev pub EndsBy : Rebalanced → r.Refusal → Type 0
EndsBy (OutOfSpace steps file index) (r.NoSpace f i) = (f ≡ file) × (i ≡ index)
EndsBy (LostExtent steps file index) (r.Lost f i) = (f ≡ file) × (i ≡ index)
EndsBy (MoveFault steps disk) (r.ReadFault d) = d ≡ disk
EndsBy (MoveFault steps disk) (r.WriteFault d) = d ≡ disk
EndsBy (MoveEnds disk) (r.Dismounted d) = d ≡ disk
EndsBy how cause = ⊥

-- the resync of a disk ended and the disk is Online
abbrev pub IsBack : Resynced → Type 0
IsBack (Back steps) = ⊤
IsBack (LeftMarked file index) = ⊤
IsBack how = ⊥

-- the refusal by which a resync ends
abbrev pub EndsSyncBy : Resynced → r.Refusal → Type 0
EndsSyncBy (SyncFault steps disk) (r.ReadFault d) = d ≡ disk
EndsSyncBy (SyncFault steps disk) (r.WriteFault d) = d ≡ disk
EndsSyncBy (SyncEnds disk) (r.Dismounted d) = d ≡ disk
EndsSyncBy how cause = ⊥

abbrev pub sync_line : Bytes → Bytes × Resynced → Bytes
sync_line group (disk, how) = event_line (Synced group disk how)

-- the line by which a rebalance ended, for this cause
pub record EndsRebalance (group : Bytes) (cause : r.Refusal) (lines : List Bytes) : Type 0 where
  pub how : Rebalanced
  pub ends : EndsBy how cause
  pub lines_are : lines ≡ event_line (Moved group how) ∷ []

-- one line for each of these disks, all of them Online now
pub record AreBack (group : Bytes) (disks : List Bytes) (lines : List Bytes) : Type 0 where
  pub ends : List (Bytes × Resynced)
  pub disks_are : map (λ (e : Bytes × Resynced). e.0) ends ≡ disks
  pub back : All (λ (e : Bytes × Resynced). IsBack e.1) ends
  pub lines_are : lines ≡ map (sync_line group) ends

-- some of the disks are Online now, in turn, and at the next one it ended so
pub record EndsAtDisk (group : Bytes) (disks : List Bytes) (cause : r.Refusal) (lines : List Bytes) : Type 0 where
  pub before : List Bytes
  pub disk : Bytes
  pub after : List Bytes
  pub split : disks ≡ before ++ disk ∷ after
  pub how : Resynced
  pub ends : EndsSyncBy how cause
  pub first : List Bytes
  pub back : AreBack group before first
  pub lines_are : lines ≡ first ++ sync_line group (disk, how) ∷ []

-- some of the disks are Online now, in turn
pub record AreBackInPart (group : Bytes) (disks : List Bytes) (lines : List Bytes) : Type 0 where
  pub before : List Bytes
  pub after : List Bytes
  pub split : disks ≡ before ++ after
  pub back : AreBack group before lines

abbrev pub names_of : List DiskRow → List Bytes
names_of rows = map (λ (row : DiskRow). row.name) rows

-- The lines before `ok`.
abbrev pub DoneLines : Bytes → List DiskRow → Wait → List Bytes → Type 0
DoneLines group rows Nothing lines = lines ≡ []
DoneLines group rows Rebalance lines = (steps : ℕ) × (lines ≡ event_line (Moved group (Finished steps)) ∷ [])
DoneLines group rows (Resync disks) lines = AreBack group (names_of (disks_taken rows disks)) lines

-- The lines before the refusal of a rebalance's WAIT: its end, where it can't be refused so otherwise.
abbrev pub RefusedRebalance : Bytes → r.Refusal → List Bytes → Type 0
RefusedRebalance group (r.NoSpace file index) lines = EndsRebalance group (r.NoSpace file index) lines
RefusedRebalance group (r.Lost file index) lines = EndsRebalance group (r.Lost file index) lines
RefusedRebalance group (r.ReadFault disk) lines = EndsRebalance group (r.ReadFault disk) lines
RefusedRebalance group cause lines = (lines ≡ []) ⊎ EndsRebalance group cause lines

-- The lines before the refusal of a resync's WAIT, on these disks: how far it came, where it can't be refused so otherwise.
abbrev pub RefusedResync : Bytes → List Bytes → r.Refusal → List Bytes → Type 0
RefusedResync group disks r.NoMemory lines = AreBackInPart group disks lines
RefusedResync group disks (r.ReadFault disk) lines = EndsAtDisk group disks (r.ReadFault disk) lines
RefusedResync group disks (r.WriteFault disk) lines = EndsAtDisk group disks (r.WriteFault disk) lines
RefusedResync group disks cause lines = (lines ≡ []) ⊎ EndsAtDisk group disks cause lines

-- The lines before a refusal.
abbrev pub RefusedLines : Bytes → List DiskRow → Wait → r.Refusal → List Bytes → Type 0
RefusedLines group rows Nothing cause lines = lines ≡ []
RefusedLines group rows Rebalance cause lines = RefusedRebalance group cause lines
RefusedLines group rows (Resync disks) cause lines = RefusedResync group (names_of (disks_taken rows disks)) cause lines

-- the name of the group as it is printed
abbrev pub printed_name : World → Bytes → Bytes
printed_name w name = elim (entry_in w name) [ None ↦ name | Some entry ↦ entry.name ]

-- CHECK has its report in place of lines of WAIT
abbrev pub ClauseLines : Below → World → Bytes → s.Clause → Reply → Type 0
ClauseLines below w name s.Check (Done lines) = ⊤
ClauseLines below w name clause (Done lines) = DoneLines (printed_name w name) (rows_in below w name) (wait_of clause) lines
ClauseLines below w name clause (Refused lines cause) = RefusedLines (printed_name w name) (rows_in below w name) (wait_of clause) cause lines

-- The lines of a reply, but for reports.
abbrev pub HasLines : Below → World → c.Command → Reply → Type 0
HasLines below w (c.Said (s.Alter name clause)) reply = ClauseLines below w name clause reply
HasLines below w command (Done lines) = ⊤
HasLines below w command (Refused lines cause) = lines ≡ []
