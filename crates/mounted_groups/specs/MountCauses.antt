-- Why a mount of a group is refused, by what the disks held before it and by the slots that failed in it.
use Rattle.std.specs.Prelude.{◌≡◌, ◌≢◌, ◌⊎◌, ⊤, ℕ, ◌+◌, ◌^◌, ◌<◌, ◌==◌, max, Bool, true, false, List, [], length, get_or, Option, Some, None}
use Rattle.std.specs.Option.{option_map}
use Rattle.bay.specs.Image.{Image}
use Rattle.bay.specs.State.{BayState}
use Rattle.bay.specs.Counts.{Rose}
use Rattle.asm_group.specs.Names.{Bytes, is_same_name}
use Rattle.asm_group.specs.Shape.{Shape}
use Rattle.asm_group.specs.Refusal as r
use Rattle.asm_formats.specs.Among.{IsAmong}
use Rattle.asm_formats.specs.Items.{DiskInfo}
use Rattle.asm_formats.specs.Status.{Entry, Status}
use Rattle.asm_images.specs.Kept.{IsMemberIn, header_in}
use Rattle.asm_images.specs.Register.{greatest}
use Rattle.asm_placement.specs.Modes.{serves}
use Rattle.group_recovery.specs.disk_directory.Disks.{info_at}
use Rattle.group_recovery.specs.catalog_tables.Tables.{Catalogued}
use Rattle.change_directory.specs.declared.copy.DirCopy.{DirCopy}
use Rattle.change_directory.specs.Formatting.{AreShut}
use Rattle.group_recovery.specs.directory_store.Copies.{AreKept}
use Rattle.group_recovery.specs.directory_store.Loading.{HasTwins}
use Rattle.group_recovery.specs.directory_store.Reading.{HasDamage}
use Rattle.group_recovery.specs.directory_store.Stores.{Stored}
use Rattle.page_map.specs.Tables.{Shows}
use Rattle.status_register.specs.SurveyLaws.{IsMemberOn}
use Rattle.status_register.specs.Surveys.{claims_on, first_damage, greatest_epoch, missing, records_on}
use Rattle.status_register.specs.declared.member.Member.{Member}
use Rattle.status_table.specs.Changes.{majority_of}
use Rattle.group_recovery.specs.Alike.{clashes}
use Rattle.group_recovery.specs.Missing.{is_disk_of}
use Rattle.group_recovery.specs.NamedCopies.{directory_copy_of, is_named_copy}
use Rattle.group_recovery.specs.Quorum.{IsCatalogIn, IsFaultPlace}
use Rattle.group_recovery.specs.Recovering.{is_own}
use Rattle.group_recovery.specs.Verdicts.{member_of}
use Rattle.group_recovery.specs.declared.error.MountError.{MountError}
use Rattle.group_recovery.specs.declared.error.MountError.TheVariants as error
use Rattle.group_recovery.specs.declared.finding.Headed.{Headed}
use Rattle.group_recovery.specs.declared.quorum.MountOption.{MountOption}
use Rattle.group_recovery.specs.declared.quorum.MountOption.TheVariants.{NoForce}
use Rattle.mounted_groups.specs.Found.{Counts, ToldByCounts, counts_of}
use Rattle.mounted_groups.specs.Holding.{IsHeldSlot}
use Rattle.mounted_groups.specs.Mounting.{IsMountCause}

-- ---- what the disks held

-- a mount over so many slots: what is counted of the disks before and after it, and what they held before
pub record Look : Type 0 where
  pub slots : ℕ
  pub before : Counts
  pub after : Counts
  pub image : Image

abbrev pub SlotFailed : Look → ℕ → Type 0
SlotFailed l slot = Rose (l.before.faults slot) (l.after.faults slot)

-- one of the slots has this disk, with an open header
pub record IsHeadedDisk (l : Look) (d : Headed) : Type 0 where
  pub below : d.slot < l.slots
  pub size : l.image.size d.slot ≡ d.size
  pub header : header_in l.image d.slot ≡ Some d.header

-- and the slot didn't fail
pub record IsDiskThere (l : Look) (d : Headed) : Type 0 where
  pub is : IsHeadedDisk l d
  pub fine : SlotFailed l d.slot → ⊥

-- These are disks for which the test is true, each of them that is there among them.
pub record AreDisksWith (l : Look) (test : Headed → Bool) (ms : List Member) : Type 0 where
  pub each : (m : Member) → IsAmong ms m → (d : Headed) × IsHeadedDisk l d × (test d ≡ true) × (m ≡ member_of d)
  pub all : (d : Headed) → IsDiskThere l d → test d ≡ true → IsAmong ms (member_of d)

abbrev pub has_id : ℕ → Headed → Bool
has_id id d = d.header.id == id

-- a disk of the id has the name
pub record HasNamedDisk (l : Look) (name : Bytes) (id : ℕ) : Type 0 where
  pub disk : Headed
  pub is : IsHeadedDisk l disk
  pub member : disk.header.id ≡ id
  pub named : is_same_name disk.header.group name ≡ true

-- ---- the record of a group

-- the greatest record of the id on these disks
abbrev pub record_on : Look → ℕ → List Member → Option Status
record_on l id ms = greatest (records_on id l.image ms)

-- Of the disks of the id a majority of each set of the greatest record was read, which is marked gone or not.
pub record IsIdRead (l : Look) (id : ℕ) (gone : Bool) : Type 0 where
  pub read : List Member
  pub are : AreDisksWith l (has_id id) read
  pub enough : missing read (record_on l id read) ≡ None
  pub marked : option_map (λ (r : Status). r.gone) (record_on l id read) ≡ Some gone

-- the record is the greatest on disks of the id that are a majority of each of its sets
pub record IsRecordRead (l : Look) (id : ℕ) (r : Status) : Type 0 where
  pub read : List Member
  pub each : (m : Member) → IsAmong read m → IsMemberOn l.slots id l.image m
  pub greatest_is : record_on l id read ≡ Some r
  pub enough : missing read (Some r) ≡ None

-- ---- the directories of a group

-- Directories were read: each of their copies is one that the record names, and has them.
pub record AreDirectories (l : Look) (id : ℕ) (r : Status) (record_ : IsRecordRead l id r) (store : Stored) : Type 0 where
  pub copies : (c : DirCopy) → IsAmong store.copies c → (d : Headed) × IsHeadedDisk l d × (is_named_copy id record_.read r d ≡ true) × (c ≡ directory_copy_of d)
  pub page : ℕ → Bytes
  pub shows : Shows store.table page
  pub kept : AreKept store.copies store.due store.number page l.image

-- the directories that were read have this name for the disk of a number
pub record IsDiskName (l : Look) (id : ℕ) (r : Status) (number : ℕ) (name : Bytes) : Type 0 where
  pub record_ : IsRecordRead l id r
  pub store : Stored
  pub are : AreDirectories l id r record_ store
  pub shape : Shape
  pub catalog : Catalogued
  pub catalogued : IsCatalogIn store r shape catalog
  pub name_is : option_map (λ (i : DiskInfo). i.name) (info_at catalog.tables.disks number) ≡ Some name

-- ---- causes

-- NoGroup: each disk with the name that is there is of a group that is gone, or one such group is; or of an id of the name no disk is
-- there, or a disk has another name.
pub data NoGroupCause (l : Look) (name : Bytes) : Type 0 where
  all_gone : ((d : Headed) → IsDiskThere l d → is_same_name d.header.group name ≡ true → IsIdRead l d.header.id true) → NoGroupCause l name
  one_gone : (id : ℕ) → HasNamedDisk l name id → IsIdRead l id true → NoGroupCause l name
  none_there : (id : ℕ) → HasNamedDisk l name id → ((d : Headed) → IsDiskThere l d → d.header.id ≡ id → ⊥) → NoGroupCause l name
  other_name : (id : ℕ) → HasNamedDisk l name id → (d : Headed) → IsHeadedDisk l d → d.header.id ≡ id → is_same_name d.header.group name ≡ false → NoGroupCause l name

-- TwoGroups: of two ids of the name a majority was read, and none is gone.
pub record TwoGroupsCause (l : Look) (name : Bytes) : Type 0 where
  pub one : ℕ
  pub other : ℕ
  pub apart : one ≢ other
  pub one_named : HasNamedDisk l name one
  pub other_named : HasNamedDisk l name other
  pub one_read : IsIdRead l one false
  pub other_read : IsIdRead l other false

-- NoMajority: of a set of the record so few disks were read, or are there with all their units, or took the claim since the others failed;
-- or the last epoch is used up.
pub data NoMajorityCause (l : Look) (id seen need : ℕ) : Type 0 where
  few_read : (read : List Member) → AreDisksWith l (has_id id) read → missing read (record_on l id read) ≡ Some (seen, need) → NoMajorityCause l id seen need
  few_whole : (r : Status) → IsRecordRead l id r → (whole : List Member) → AreDisksWith l (is_own id r.entries) whole → missing whole (Some r) ≡ Some (seen, need)
      → NoMajorityCause l id seen need
  few_took : (r : Status) (record_ : IsRecordRead l id r) (took : List Member) → ((m : Member) → IsAmong record_.read m → SlotFailed l m.slot ⊎ IsAmong took m)
      → missing took (Some r) ≡ Some (seen, need) → NoMajorityCause l id seen need
  last_epoch : (r : Status) (record_ : IsRecordRead l id r) → max (greatest_epoch (claims_on id l.image record_.read)) r.epoch + 1 ≡ 2 ^ 64 → seen ≡ 0
      → need ≡ majority_of r.holders → NoMajorityCause l id seen need

-- Damaged: a claim or a record doesn't decode, or a header is that of no disk of the group, or a directory copy that the record names is
-- damaged, or a record of the directories is at fault.
pub data DamagedCause (l : Look) (id slot block : ℕ) : Type 0 where
  body : (read : List Member) → AreDisksWith l (has_id id) read → missing read (record_on l id read) ≡ None → first_damage l.image read ≡ Some (slot, block)
      → DamagedCause l id slot block
  stranger : (d other : Headed) → IsHeadedDisk l d → IsHeadedDisk l other → d.slot ≢ other.slot → d.header.id ≡ id → clashes d other ≡ true → slot ≡ other.slot → block ≡ 1
      → DamagedCause l id slot block
  copy : (r : Status) (record_ : IsRecordRead l id r) (d : Headed) → IsHeadedDisk l d → is_named_copy id record_.read r d ≡ true → slot ≡ d.slot
      → HasDamage (directory_copy_of d) (Some block) l.image ⊎ HasTwins (directory_copy_of d) block l.image → DamagedCause l id slot block
  fault : (r : Status) (record_ : IsRecordRead l id r) (store : Stored) (shape : Shape) → AreDirectories l id r record_ store → IsFaultPlace store r shape slot block
      → DamagedCause l id slot block

-- DirectoriesLost: no directory copy that the record names, on a disk that is there, has an open log slot.
pub record DirectoriesLostCause (l : Look) (id : ℕ) : Type 0 where
  pub value : Status
  pub record_ : IsRecordRead l id value
  pub shut : (d : Headed) → IsDiskThere l d → is_named_copy id record_.read value d ≡ true → AreShut (directory_copy_of d) l.image

-- MissingDisks: the disk of an entry that would serve isn't there, and by the directories has this name.
pub record MissingDisksCause (l : Look) (id : ℕ) (name : Bytes) : Type 0 where
  pub value : Status
  pub entry : Entry
  pub among : IsAmong value.entries entry
  pub serving : serves entry.mode ≡ true
  pub absent : (d : Headed) → IsDiskThere l d → is_disk_of id entry d ≡ false
  pub named : IsDiskName l id value entry.number name

-- Dismounted: the disk of the name failed while the record was written anew, or one of the id did while lagging copies were brought up or
-- what a stop left undone was ended.
pub data DismountedCause (l : Look) (id : ℕ) (name : Bytes) : Type 0 where
  at_record : (d : Headed) → IsHeadedDisk l d → d.header.disk ≡ name → SlotFailed l d.slot → DismountedCause l id name
  behind_record : (d : Headed) → IsHeadedDisk l d → d.header.id ≡ id → SlotFailed l d.slot → DismountedCause l id name

-- of an id of the name
abbrev pub OfNamed : Look → Bytes → (ℕ → Type 0) → Type 0
OfNamed l name P = (id : ℕ) × HasNamedDisk l name id × P id

-- Why the mount of a name is refused, forced or not. That the name is mounted, or too many groups are, the session knows. No other refusal
-- comes, but want of memory.
abbrev pub IsMountRefused : List Bytes → Bytes → Bool → r.Refusal → Look → Type 0
IsMountRefused paths name force r.AlreadyMounted l = ⊤
IsMountRefused paths name force (r.TooMany kind limit) l = ⊤
IsMountRefused paths name force r.NoGroup l = NoGroupCause l name
IsMountRefused paths name force r.TwoGroups l = TwoGroupsCause l name
IsMountRefused paths name force (r.NoMajority seen need) l = OfNamed l name (λ id. NoMajorityCause l id seen need)
IsMountRefused paths name force (r.Damaged path block) l = (slot : ℕ) × (path ≡ get_or paths slot []) × OfNamed l name (λ id. DamagedCause l id slot block)
IsMountRefused paths name force r.DirectoriesLost l = OfNamed l name (λ id. DirectoriesLostCause l id)
IsMountRefused paths name force (r.MissingDisks disk) l = (force ≡ false) × OfNamed l name (λ id. MissingDisksCause l id disk)
IsMountRefused paths name force (r.Dismounted disk) l = OfNamed l name (λ id. DismountedCause l id disk)
IsMountRefused paths name force r.NoMemory l = ⊤
IsMountRefused paths name force other l = ⊥

-- the same by what is counted: of what the disks held, where the bay tells it
abbrev pub MountRefusal : List Bytes → Bytes → Bool → r.Refusal → Counts → Counts → Type 0
MountRefusal paths name force cause s t = ToldByCounts s t (λ image. IsMountRefused paths name force cause (record { slots = length paths; before = s; after = t; image = image }))

-- ---- the law

-- a mount from one state of the bay to another
abbrev pub look : ℕ → BayState → BayState → Image → Look
look n s t image = record { slots = n; before = counts_of s; after = counts_of t; image = image }

-- why a mount answers an error
abbrev pub ErrorCause : Bytes → MountOption → MountError → Look → Type 0
ErrorCause name option error.NoGroup l = NoGroupCause l name
ErrorCause name option error.TwoGroups l = TwoGroupsCause l name
ErrorCause name option (error.NoMajority seen need) l = OfNamed l name (λ id. NoMajorityCause l id seen need)
ErrorCause name option (error.Damaged slot block) l = OfNamed l name (λ id. DamagedCause l id slot block)
ErrorCause name option error.DirectoriesLost l = OfNamed l name (λ id. DirectoriesLostCause l id)
ErrorCause name option (error.MissingDisk number disk) l = (option ≡ NoForce) × OfNamed l name (λ id. MissingDisksCause l id disk)
ErrorCause name option (error.Dead slot disk) l = OfNamed l name (λ id. DismountedCause l id disk)
ErrorCause name option error.NoMemory l = ⊤

-- no disk in these slots is of an id of the name
abbrev pub AreElsewhere : Look → Bytes → List ℕ → Type 0
AreElsewhere l name held = (id slot : ℕ) → HasNamedDisk l name id → IsHeldSlot held slot → IsMemberIn id l.image slot → ⊥

-- Where other groups hold no disk of an id of the name, an error has its cause.
abbrev pub RefusalsHaveCauses : {B : Type 0} → (B → BayState) → BayState → BayState → Type 0
RefusalsHaveCauses {B} state s t =
    (name : Bytes) (n : ℕ) (held : List ℕ) (option : MountOption) (e : MountError) (image : Image) → s.holds ≡ Some image → AreElsewhere (look n s t image) name held
    → IsMountCause state name n held option s t e → ErrorCause name option e (look n s t image)
