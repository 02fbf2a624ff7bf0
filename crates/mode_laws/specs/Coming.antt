-- Entries that come, go, or come back, one by one: which events do so.
use Rattle.std.specs.Prelude.{◌≡◌, ℕ, true, Some, None, IsTrue}
use Rattle.asm_group.specs.declared.Mode.TheVariants.{Online, Syncing}
use Rattle.asm_formats.specs.Status.{Entry, Status, entry_of, is_status}
use Rattle.asm_placement.specs.Modes.{leaves}
use Rattle.asm_group.specs.Modes.{is_offline}
use Rattle.disk_modes.specs.group_reports.Disks.{is_syncing}
use Rattle.status_table.specs.Changes.{status_with_entry, status_with_mode, status_without_entry}
use Rattle.mode_laws.specs.Events.{ModeChange, ModeEvent, by_joining, by_leaving, by_online, by_sync}

-- this event happens to the disk, and nothing else
abbrev pub Happens : ModeEvent → ℕ → ℕ → ModeEvent → Type 0
Happens event disk d v = (d ≡ disk) × (v ≡ event)

-- In a record with the Online entry of a new disk more, entries have changed by its joining alone.
abbrev pub JoiningChanges : Type 0
JoiningChanges =
    (r : Status) (x : Entry) → IsTrue (is_status r) → entry_of r.entries x.number ≡ None → x.mode ≡ Online
    → ModeChange (Happens by_joining x.number) r.entries (status_with_entry r x).entries

-- In a record without the entry of a disk that was Dropping or Forced, they have changed by its leaving alone.
abbrev pub LeavingChanges : Type 0
LeavingChanges =
    (r : Status) (e : Entry) → entry_of r.entries e.number ≡ Some e → leaves e.mode ≡ true
    → ModeChange (Happens by_leaving e.number) r.entries (status_without_entry r e.number).entries

-- In a record with an Offline disk Syncing, its times as they were, they have changed by ONLINE alone.
abbrev pub OnlineChanges : Type 0
OnlineChanges =
    (r : Status) (e : Entry) → entry_of r.entries e.number ≡ Some e → is_offline e.mode ≡ true
    → ModeChange (Happens by_online e.number) r.entries (status_with_mode r e.number Syncing e.since).entries

-- In a record with a Syncing disk Online, its times as they were, they have changed by the end of its resync alone.
abbrev pub SyncChanges : Type 0
SyncChanges =
    (r : Status) (e : Entry) → entry_of r.entries e.number ≡ Some e → is_syncing e.mode ≡ true
    → ModeChange (Happens by_sync e.number) r.entries (status_with_mode r e.number Online e.since).entries
