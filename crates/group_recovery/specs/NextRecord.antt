-- The record that a mount writes anew, by what it has read.
use Rattle.std.specs.Prelude.{◌≡◌, ℕ, ◌^◌, ◌<◌, ◌==◌, ◌&&◌, Bool, true, false, List, map, if◌then◌else◌, IsTrue}
use Rattle.std.specs.List.{list_any}
use Rattle.asm_group.specs.declared.Mode.TheVariants.{Offline, Syncing}
use Rattle.asm_formats.specs.Sets.{has_bit}
use Rattle.asm_formats.specs.Status.{Entry, Status, is_status}
use Rattle.asm_formats.specs.Among.{IsAmong}
use Rattle.asm_placement.specs.Modes.{is_online}
use Rattle.asm_placement.specs.Partners.{with_partners}
use Rattle.catalog.specs.catalog_tables.MarkedExtents.{HasNoneMarked, IsFirstMarked}
use Rattle.catalog.specs.catalog_tables.Tables.{Tables}
use Rattle.directory_store.specs.change_directory.declared.copy.DirCopy.{DirCopy}
use Rattle.directory_store.specs.Stores.{has_copy_of_disk}
use Rattle.group_recovery.specs.Missing.{is_missing}
use Rattle.group_recovery.specs.declared.quorum.Quorate.{Quorate}

-- the disk has an entry
abbrev pub has_entry_of_disk : List Entry → ℕ → Bool
has_entry_of_disk entries d = list_any (λ (e : Entry). e.number == d) entries

-- what the record of a mount is made from: the record that was read is one of the formats, and each disk with a copy has an entry
pub record MakesRecord (q : Quorate) : Type 0 where
  pub status : IsTrue (is_status q.survey.value)
  pub numbers : (c : DirCopy) → IsAmong q.store.copies c → c.number < 64
  pub entries : (c : DirCopy) → IsAmong q.store.copies c → has_entry_of_disk q.survey.value.entries c.number ≡ true

-- whether a stale copy of an extent lies on the disk
abbrev pub IsMarkOf : Tables → ℕ → Bool → Type 0
IsMarkOf t d true = (x : ℕ × ℕ) × IsFirstMarked t d (0, 0) x
IsMarkOf t d false = HasNoneMarked t d (0, 0)

-- of the disks with entries the set has those on which a stale copy lies
abbrev pub HasStaleDisks : Tables → List Entry → ℕ → Type 0
HasStaleDisks t entries set = (d : ℕ) → d < 64 → has_entry_of_disk entries d ≡ true → IsMarkOf t d (has_bit set d)

-- the entry of a disk after a mount: a missing one is Offline since this second, with this repair time, and an Online one with a stale
-- copy is Syncing
abbrev pub entry_after_mount : Bool → Bool → ℕ → ℕ → Entry → Entry
entry_after_mount missing marked now repair e =
    if missing then record e { mode = Offline; since = now; repair = repair }
    else if is_online e.mode && marked then record e { mode = Syncing } else e

-- the entry of a disk of the group, with these marked ones
abbrev pub entry_when_mounted : Quorate → ℕ → ℕ → Entry → Entry
entry_when_mounted q marked now e =
    entry_after_mount (is_missing q.id q.headed.items e) (has_bit marked e.number) now q.catalog.tables.templates.settings.attributes.repair e

-- The record of the mount is the one that was read with other modes and their partners, and names the store's copies alone.
pub record IsNextRecord (q : Quorate) (now : ℕ) (next : Status) : Type 0 where
  pub marked : ℕ
  pub marks : HasStaleDisks q.catalog.tables q.survey.value.entries marked
  pub named : ℕ
  pub small : named < 2 ^ 64
  pub copies : (d : ℕ) → d < 64 → has_bit named d ≡ has_copy_of_disk d q.store.copies
  pub next_is : next ≡ record q.survey.value {
    entries = with_partners (map (entry_when_mounted q marked now) q.survey.value.entries);
    directories = named;
  }
