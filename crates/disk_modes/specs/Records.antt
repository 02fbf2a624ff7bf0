-- The status records that statements on disks put.
use Rattle.std.specs.Prelude.{◌≡◌, ℕ, List, map, if◌then◌else◌, IsTrue}
use Rattle.asm_group.specs.declared.Mode.TheVariants as mode
use Rattle.asm_formats.specs.Sets.{elements, has_bit}
use Rattle.asm_formats.specs.Status.{Entry, Status, is_status}
use Rattle.asm_formats.specs.Among.{IsAmong}
use Rattle.asm_placement.specs.Modes.{is_dropping}
use Rattle.asm_placement.specs.Partners.{with_partners}
use Rattle.status_table.specs.Changes.{status_with_mode, status_with_offline}
use Rattle.record_laws.specs.group_engine.Dropping.{IsWithout}
use Rattle.record_laws.specs.group_engine.NextRecords.{KeepsDisks}
use Rattle.disk_modes.specs.declared.records.Becomes.{Becomes}
use Rattle.disk_modes.specs.declared.records.Becomes.TheVariants as becomes
use Rattle.disk_modes.specs.declared.records.NewModes.{NewModes}
use Rattle.disk_modes.specs.declared.records.NewModes.TheVariants as modes

-- s is r with fewer directory copies, or as many.
pub record HasFewer (r s : Status) : Type 0 where
  pub same : s ≡ record r { directories = s.directories }
  pub fewer : (d : ℕ) → IsAmong (elements s.directories) d → IsAmong (elements r.directories) d

-- s has the id, the sets, the births and the disks of r, and no more directory copies; modes, times and partners may differ.
pub record IsChanged (r s : Status) : Type 0 where
  -- the record with all directory copies
  pub named : Status
  pub allowed : IsTrue (is_status named)
  pub disks : KeepsDisks r named
  pub births : named.births ≡ r.births
  pub fewer : HasFewer named s

-- ---- entries

-- what becomes of the entry of a disk
abbrev pub change_of : NewModes → Entry → Becomes
change_of (modes.Offline disks since repair) e = if has_bit disks e.number then becomes.Offline since repair else becomes.Same
change_of (modes.Dropped dropping forced) e =
    if has_bit forced e.number then becomes.InMode mode.Forced else if has_bit dropping e.number then becomes.InMode mode.Dropping else becomes.Same
change_of modes.Undropped e = if is_dropping e.mode then becomes.InMode mode.Online else becomes.Same

abbrev pub entry_as : Becomes → Entry → Entry
entry_as becomes.Same e = e
entry_as (becomes.Offline since repair) e = record e { mode = mode.Offline; since = since; repair = repair }
entry_as (becomes.InMode m) e = record e { mode = m }

-- the entry of a disk under the new modes, but for its partners
abbrev pub entry_after : NewModes → Entry → Entry
entry_after new e = entry_as (change_of new e) e

-- partners are made anew where disks come to their table or leave it
abbrev pub with_partners_for : NewModes → List Entry → List Entry
with_partners_for (modes.Offline disks since repair) es = es
with_partners_for (modes.Dropped dropping forced) es = with_partners es
with_partners_for modes.Undropped es = with_partners es

-- the entries under the new modes
abbrev pub entries_after : NewModes → List Entry → List Entry
entries_after new es = with_partners_for new (map (entry_after new) es)

-- the disks that have no directory copy any more
abbrev pub taken_off : NewModes → ℕ
taken_off (modes.Offline disks since repair) = disks
taken_off (modes.Dropped dropping forced) = forced
taken_off modes.Undropped = 0

-- The record has the entries under the new modes, and of the directory copies those that aren't taken off.
pub record IsUnder (new : NewModes) (r s : Status) : Type 0 where
  pub entries : s.entries ≡ entries_after new r.entries
  pub copies : IsWithout s.directories r.directories (taken_off new)

-- ---- one entry

-- the record in which this becomes of the entry
abbrev pub status_as : Becomes → Entry → Status → Status
status_as becomes.Same e r = r
status_as (becomes.Offline since repair) e r = status_with_offline r e.number since repair
status_as (becomes.InMode m) e r = status_with_mode r e.number m e.since
