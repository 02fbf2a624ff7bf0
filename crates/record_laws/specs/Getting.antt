-- Which status records a mounted group may get, by what they change.
use Rattle.std.specs.Prelude.{◌≡◌, ◌⊎◌, ℕ, ◌+◌, ◌<◌, ◌≤◌, ◌^◌, true, get_or, Some, None, IsTrue}
use Rattle.bay.specs.State.{BayState}
use Rattle.bay.specs.Moments.{NowOnly}
use Rattle.asm_group.specs.Group.{Group}
use Rattle.asm_formats.specs.Among.{IsAmong}
use Rattle.asm_formats.specs.Header.{Header}
use Rattle.asm_formats.specs.Regions.{units_in}
use Rattle.asm_formats.specs.Sets.{elements}
use Rattle.asm_formats.specs.Status.{Entry, Status, entry_of, is_status}
use Rattle.asm_placement.specs.Modes.{is_forced}
use Rattle.asm_placement.specs.Partners.{HasPartners}
use Rattle.asm_images.specs.Kept.{Kept, header_in}
use Rattle.asm_images.specs.RecordLaws.{ChangesModes}
use Rattle.group_engine.specs.catalog_tables.Rules.{KeepsRules, has_info}
use Rattle.group_engine.specs.declared.attached.Attached.{Attached}
use Rattle.group_engine.specs.Mounts.{MountedGroup, Mounts}
use Rattle.group_engine.specs.NextRecords.{KeepsDisks}
use Rattle.group_engine.specs.Recorded.{MayGet}
use Rattle.group_engine.specs.Statuses.{IsNextOf}

-- A record that may come next of a mounted group of n slots, which the disks hold as g, where its turns don't run out.
pub record ComesNext (n : ℕ) (m : MountedGroup) (next : Status) (s : BayState) (g : Group) (kept : Kept) : Type 0 where
  pub mounts : Mounts n m s g kept
  pub may : IsNextOf m next
  pub turns : m.register.turn + 1 < 2 ^ 64

-- ---- modes

-- The group may get a record with other modes, times and partners, with other holders, and by which more births were given.
abbrev pub ModesMayBeGot : BayState → Type 0
ModesMayBeGot s =
    (n : ℕ) (m : MountedGroup) (next : Status) (g : Group) (kept : Kept) → ComesNext n m next s g kept → ChangesModes m.register.value next → MayGet n m next s g kept

-- The disks, the sets and the copies stay, and a disk that was Forced is so still.
pub record ChangesModesAlone (r s : Status) : Type 0 where
  pub disks : KeepsDisks r s
  pub births : r.births ≤ s.births
  pub forced : (d : ℕ) (e f : Entry) → entry_of r.entries d ≡ Some e → entry_of s.entries d ≡ Some f → is_forced e.mode ≡ true → is_forced f.mode ≡ true

-- With the partners of its modes such a record changes modes as the covering laws want it.
abbrev pub ModesAloneAreModes : Type 0
ModesAloneAreModes = (r s : Status) → ChangesModesAlone r s → HasPartners s.entries → ChangesModes r s

-- The group may get such a record of the formats.
abbrev pub SameDisksMayBeGot : BayState → Type 0
SameDisksMayBeGot s =
    (n : ℕ) (m : MountedGroup) (next : Status) (g : Group) (kept : Kept) → Mounts n m s g kept → m.register.turn + 1 < 2 ^ 64 → IsTrue (is_status next)
    → ChangesModesAlone m.register.value next → HasPartners next.entries → MayGet n m next s g kept

-- The partners in the record of a mounted group are those of its modes.
abbrev pub MountedHasPartners : BayState → Type 0
MountedHasPartners s = (n : ℕ) (m : MountedGroup) (g : Group) (kept : Kept) → Mounts n m s g kept → HasPartners m.register.value.entries

-- s has the entries and the directory copies of r; its holders may be others, and more births given.
pub record HasSameEntries (r s : Status) : Type 0 where
  pub directories : s.directories ≡ r.directories
  pub births : r.births ≤ s.births
  pub entries : s.entries ≡ r.entries

-- The group may get such a record.
abbrev pub SameEntriesMayBeGot : BayState → Type 0
SameEntriesMayBeGot s =
    (n : ℕ) (m : MountedGroup) (next : Status) (g : Group) (kept : Kept) → ComesNext n m next s g kept → HasSameEntries m.register.value next → MayGet n m next s g kept

-- ---- entries

-- The entry's disk is attached to the group, and its image has the entry's units.
pub record IsAttachedWith (m : MountedGroup) (e : Entry) : Type 0 where
  pub image : Attached
  pub attached : get_or m.disks e.number None ≡ Some image
  pub units : e.units ≤ units_in m.catalog.shape image.size

-- The disk had an entry: its birth and its kind stay, it is Forced where it was, and it has no more units than before, or its image has them.
pub record KeepsEntry (m : MountedGroup) (e : Entry) : Type 0 where
  pub was : Entry
  pub there : entry_of m.register.value.entries e.number ≡ Some was
  pub birth : was.birth ≡ e.birth
  pub quorum : was.quorum ≡ e.quorum
  pub forced : is_forced was.mode ≡ true → is_forced e.mode ≡ true
  pub room : (e.units ≤ was.units) ⊎ IsAttachedWith m e

-- The disk had none, and joins: its birth was given, it has a disk record, and it shows its header in a slot, where its image has the units.
pub record JoinsDisk (m : MountedGroup) (s : BayState) (e : Entry) : Type 0 where
  pub none : entry_of m.register.value.entries e.number ≡ None
  pub given : e.birth ≤ m.register.value.births
  pub info : has_info m.catalog.tables e ≡ true
  pub slot : ℕ
  pub size : ℕ
  pub header : Header
  pub attached : s.attached slot ≡ Some size
  pub shows : NowOnly s (λ image. header_in image slot ≡ Some header)
  pub group : header.id ≡ m.register.id
  pub number : header.number ≡ e.number
  pub birth : header.birth ≡ e.birth
  pub units : e.units ≤ units_in m.catalog.shape size

-- The record has other entries than the one that holds: disks come, go, or get other modes or units. The group's tables keep their rules.
pub record ChangesDisks (m : MountedGroup) (next : Status) (s : BayState) : Type 0 where
  -- where the record that holds names a directory copy, a copy is left
  pub some : (d : ℕ) → IsAmong (elements m.register.value.directories) d → (k : ℕ) × IsAmong (elements next.directories) k
  pub births : m.register.value.births ≤ next.births
  pub each : (e : Entry) → IsAmong next.entries e → KeepsEntry m e ⊎ JoinsDisk m s e
  pub rules : KeepsRules m.catalog.shape m.catalog.tables
  pub partners : HasPartners next.entries

-- The group may get such a record.
abbrev pub EntriesMayBeGot : BayState → Type 0
EntriesMayBeGot s =
    (n : ℕ) (m : MountedGroup) (next : Status) (g : Group) (kept : Kept) → ComesNext n m next s g kept → ChangesDisks m next s → MayGet n m next s g kept

-- ---- directory copies

-- s has the entries and births of r, and of its directory copies some.
pub record NamesFewer (r s : Status) : Type 0 where
  pub births : s.births ≡ r.births
  pub entries : s.entries ≡ r.entries
  pub fewer : (d : ℕ) → IsAmong (elements s.directories) d → IsAmong (elements r.directories) d
  pub some : (d : ℕ) × IsAmong (elements s.directories) d

-- Where a group may get a record, it may get the one with fewer directory copies.
abbrev pub FewerCopiesMayBeGot : BayState → Type 0
FewerCopiesMayBeGot s =
    (n : ℕ) (m : MountedGroup) (next fewer : Status) (g : Group) (kept : Kept) → MayGet n m next s g kept → IsNextOf m next → IsNextOf m fewer → NamesFewer next fewer
    → MayGet n m fewer s g kept
