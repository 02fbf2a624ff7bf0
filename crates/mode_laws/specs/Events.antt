-- The events by which modes change, what each does to the entry of its disk, and when entries change by some events alone.
use Rattle.std.specs.Prelude.{◌≡◌, ◌⊎◌, ℕ, Bool, true, not, List, [], ◌∷◌, map, Option, Some, None, if◌then◌else◌}
use Rattle.asm_group.specs.declared.Mode.{Mode}
use Rattle.asm_group.specs.declared.Mode.TheVariants.{Online, Offline, Syncing, Dropping, Forced}
use Rattle.asm_formats.specs.Status.{Entry, entry_of}
use Rattle.asm_placement.specs.Modes.{is_dropping, is_forced, is_online, leaves, serves}
use Rattle.asm_group.specs.Modes.{is_offline}
use Rattle.disk_modes.specs.group_reports.Disks.{is_syncing}

-- What happens to a disk in a call.
pub data ModeEvent : Type 0 where
  -- OFFLINE names it: it is Offline since a second, and is dropped after so many
  by_offline : ℕ → ℕ → ModeEvent
  -- a write to it failed: the same
  by_fault : ℕ → ℕ → ModeEvent
  -- a forced mount doesn't find it: the same
  by_missing : ℕ → ℕ → ModeEvent
  -- a mount finds a stale copy on it
  by_mark : ModeEvent
  -- ONLINE names it
  by_online : ModeEvent
  -- its resync is at its end
  by_sync : ModeEvent
  -- DROP names it without FORCE
  by_drop : ModeEvent
  -- and with FORCE
  by_force : ModeEvent
  -- UNDROP DISKS names its group
  by_undrop : ModeEvent
  -- its time is up
  by_expiry : ModeEvent
  -- a rebalance is at its end and has emptied it
  by_leaving : ModeEvent
  -- ADD names it
  by_joining : ModeEvent
  -- RESIZE gives it so many units
  by_resize : ℕ → ModeEvent

-- ---- one entry

-- the mode where it is to come
abbrev pub mode_if : Bool → Mode → Option Mode
mode_if takes m = if takes then Some m else None

-- the mode of a disk after an event, by the one before; none where the event changes no disk of that mode
abbrev pub mode_after : ModeEvent → Mode → Option Mode
mode_after (by_offline since repair) m = mode_if (is_online m) Offline
mode_after (by_fault since repair) m = mode_if (serves m) Offline
mode_after (by_missing since repair) m = mode_if (serves m) Offline
mode_after by_mark m = mode_if (is_online m) Syncing
mode_after by_online m = mode_if (is_offline m) Syncing
mode_after by_sync m = mode_if (is_syncing m) Online
mode_after by_drop m = mode_if (is_online m) Dropping
mode_after by_force m = mode_if (not (is_forced m)) Forced
mode_after by_undrop m = mode_if (is_dropping m) Online
mode_after by_expiry m = mode_if (is_offline m) Forced
mode_after _ m = None

-- the second since which a disk is Offline, and the seconds after which it is dropped
abbrev pub offline_times : Entry → ℕ × ℕ
offline_times e = (e.since, e.repair)

-- after an event: new ones where the disk goes Offline by it, else those before
abbrev pub times_after : ModeEvent → ℕ × ℕ → ℕ × ℕ
times_after (by_offline since repair) times = (since, repair)
times_after (by_fault since repair) times = (since, repair)
times_after (by_missing since repair) times = (since, repair)
times_after _ times = times

-- The entry has the mode and the times that the event gives to the one before.
pub record TakesEffect (v : ModeEvent) (e f : Entry) : Type 0 where
  pub mode : mode_after v e.mode ≡ Some f.mode
  pub times : offline_times f ≡ times_after v (offline_times e)

-- It has the mode and the times of the one before.
pub record KeepsMode (e f : Entry) : Type 0 where
  pub mode : f.mode ≡ e.mode
  pub times : offline_times f ≡ offline_times e

-- ---- all entries

-- The entry of a disk is the one before, but for what happened to the disk, and for its partners.
pub record EntryChange (happens : ℕ → ModeEvent → Type 0) (e f : Entry) : Type 0 where
  pub number : f.number ≡ e.number
  pub birth : f.birth ≡ e.birth
  pub failgroup : f.failgroup ≡ e.failgroup
  pub quorum : f.quorum ≡ e.quorum
  -- an event that happened gave it its mode, or it keeps that
  pub mode : KeepsMode e f ⊎ ((v : ModeEvent) × happens e.number v × TakesEffect v e f)
  -- a RESIZE gave it its units, or it keeps these
  pub units : (f.units ≡ e.units) ⊎ happens e.number (by_resize f.units)

-- Entries change by the events alone that happened to their disks in a call: modes by the table of events; a disk that goes was Dropping or
-- Forced, and left; one that comes is Online, and joined.
pub record ModeChange (happens : ℕ → ModeEvent → Type 0) (old new : List Entry) : Type 0 where
  pub stays : (d : ℕ) (e f : Entry) → entry_of old d ≡ Some e → entry_of new d ≡ Some f → EntryChange happens e f
  pub goes : (d : ℕ) (e : Entry) → entry_of old d ≡ Some e → entry_of new d ≡ None → (leaves e.mode ≡ true) × happens d by_leaving
  pub comes : (d : ℕ) (f : Entry) → entry_of old d ≡ None → entry_of new d ≡ Some f → (f.mode ≡ Online) × happens d by_joining

-- ---- the table, row by row

-- the modes to which OFFLINE, a failed write, a missing disk, a stale copy, ONLINE, the end of resync, DROP, DROP FORCE, UNDROP and expiry take a
-- disk of this mode
abbrev pub mode_row : ℕ → ℕ → Mode → List (Option Mode)
mode_row since repair m =
    map (λ (v : ModeEvent). mode_after v m) (
    by_offline since repair ∷ by_fault since repair ∷ by_missing since repair ∷ by_mark ∷ by_online
    ∷ by_sync ∷ by_drop ∷ by_force ∷ by_undrop ∷ by_expiry ∷ []
    )

-- Each mode is left by these events alone.
pub record TableOfModes (since repair : ℕ) : Type 0 where
  pub online : mode_row since repair Online ≡ Some Offline ∷ Some Offline ∷ Some Offline ∷ Some Syncing ∷ None ∷ None ∷ Some Dropping ∷ Some Forced ∷ None ∷ None ∷ []
  pub offline : mode_row since repair Offline ≡ None ∷ None ∷ None ∷ None ∷ Some Syncing ∷ None ∷ None ∷ Some Forced ∷ None ∷ Some Forced ∷ []
  pub syncing : mode_row since repair Syncing ≡ None ∷ Some Offline ∷ Some Offline ∷ None ∷ None ∷ Some Online ∷ None ∷ Some Forced ∷ None ∷ None ∷ []
  pub dropping : mode_row since repair Dropping ≡ None ∷ Some Offline ∷ Some Offline ∷ None ∷ None ∷ None ∷ None ∷ Some Forced ∷ Some Online ∷ None ∷ []
  pub forced : mode_row since repair Forced ≡ None ∷ None ∷ None ∷ None ∷ None ∷ None ∷ None ∷ None ∷ None ∷ None ∷ []
