-- The status register as a machine: one program at a time, which may stop at any moment, and disks that come and go.
use Rattle.std.specs.Prelude.{◌≡◌, ℕ, ◌+◌, ◌<◌, List, [], ◌∷◌, Some, IsTrue}
use Rattle.asm_formats.specs.Status.{Status, is_status}
use Rattle.asm_formats.specs.Following.{Holder, sets, Follows}
use Rattle.register_machine.specs.Disks.{DisksByHolder, blank, with_claim, with_record, is_enough, has_claim, has_record, surveyed_record, seen_epoch}

-- what the program is at
pub data Program : Type 0 where
  -- none runs, or it hasn't surveyed yet
  Idle : Program
  -- it found this record, and claims this epoch
  Claiming : (found : Status) (epoch : ℕ) → Program
  -- its claim stands
  Claimed : (found : Status) (epoch : ℕ) → Program
  -- it puts this record on disks
  Writing : (next : Status) → Program
  -- this record is complete, and it may write the next one
  Holding : (last : Status) → Program

-- what became of records: begun, and complete, which is then acknowledged
pub data Mark : Type 0 where
  Begun : Status → Mark
  Completed : Status → Mark

pub record State : Type 0 where
  pub disks : DisksByHolder
  pub program : Program
  -- the newest mark first
  pub history : List Mark

-- Each survey names the disks that it can read: so disks are lost, and come back with what they held.
-- A put that a stop tears leaves the disk as it was, or with what was put; puts may go to any disks, and leave any out.
pub data Event : Type 0 where
  -- a group is created, with this first record
  Creates : (first : Status) → Event
  -- a program reads these disks, and finds this record
  Surveys : (read : List Holder) (found : Status) → Event
  -- its claim is put on a disk
  Claims : (disk : Holder) (found : Status) (epoch : ℕ) → Event
  -- its claim stands on disks that are enough for that record
  ClaimStands : (found : Status) (epoch : ℕ) → Event
  -- a record may be put from now on
  Begins : (next : Status) → Event
  -- the record is put on a disk
  Stores : (disk : Holder) (next : Status) → Event
  -- the record stands on disks that are enough for it, and is acknowledged
  Completes : (next : Status) → Event
  -- the program ends, wherever it is
  Stops : Event

-- After its claim a program writes the sets that it found, under the epoch that it claimed. Then each record follows the last one, with a greater turn.
abbrev pub MayBegin : Program → Status → Type 0
MayBegin Idle next = ⊥
MayBegin (Claiming found epoch) next = ⊥
MayBegin (Claimed found epoch) next = (next.epoch ≡ epoch) × (sets next ≡ sets found)
MayBegin (Writing other) next = ⊥
MayBegin (Holding last) next = (next.epoch ≡ last.epoch) × (last.turn < next.turn) × Follows last next

-- which event may come next
abbrev pub Allowed : State → Event → Type 0
-- nothing was begun: a group is created once
Allowed s (Creates first) = (s.program ≡ Idle) × (s.history ≡ [])
-- the disks are enough for the greatest record that they hold
Allowed s (Surveys read found) = (s.program ≡ Idle) × (surveyed_record s.disks read ≡ Some found)
Allowed s (Claims disk found epoch) = s.program ≡ Claiming found epoch
Allowed s (ClaimStands found epoch) = (s.program ≡ Claiming found epoch) × IsTrue (is_enough (has_claim s.disks epoch) found)
Allowed s (Begins next) = IsTrue (is_status next) × MayBegin s.program next
Allowed s (Stores disk next) = s.program ≡ Writing next
Allowed s (Completes next) = (s.program ≡ Writing next) × IsTrue (is_enough (has_record s.disks next) next)
Allowed s Stops = Unit {0}

-- what it leaves
abbrev pub after : State → Event → State
after s (Creates first) = record s { program = Claiming first first.epoch }
-- the epoch is above all that these disks show
after s (Surveys read found) = record s { program = Claiming found (seen_epoch s.disks read + 1) }
after s (Claims disk found epoch) = record s { disks = with_claim s.disks disk epoch }
after s (ClaimStands found epoch) = record s { program = Claimed found epoch }
after s (Begins next) = record s { program = Writing next; history = Begun next ∷ s.history }
after s (Stores disk next) = record s { disks = with_record s.disks disk next }
after s (Completes next) = record s { program = Holding next; history = Completed next ∷ s.history }
after s Stops = record s { program = Idle }

-- one event after the other
abbrev pub AreAllowed : State → List Event → Type 0
AreAllowed s [] = Unit {0}
AreAllowed s (event ∷ events) = Allowed s event × AreAllowed (after s event) events

abbrev pub after_all : State → List Event → State
after_all s [] = s
after_all s (event ∷ events) = after_all (after s event) events

-- disks without claims and records
abbrev pub start : State
start = record { disks = blank; program = Idle; history = [] }
