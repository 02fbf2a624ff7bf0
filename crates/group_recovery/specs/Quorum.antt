-- What a mount has read of a group: its disks, its record and its directories.
use Rattle.std.specs.Prelude.{◌≡◌, ◌⊎◌, ⊤, ℕ, ◌+◌, ◌^◌, ◌<◌, List, length, Option, Some, None}
use Rattle.std.specs.Option.{option_map}
use Rattle.bay.specs.State.{BayState}
use Rattle.asm_group.specs.Shape.{Shape}
use Rattle.asm_formats.specs.Items.{DiskInfo, Key}
use Rattle.asm_formats.specs.Status.{Status, Entry}
use Rattle.asm_formats.specs.Among.{IsAmong}
use Rattle.catalog.specs.disk_directory.Disks.{info_at}
use Rattle.catalog.specs.catalog_tables.Faults.{IsAtFault, IsCatalogOf}
use Rattle.catalog.specs.catalog_tables.Tables.{Catalogued, Tables}
use Rattle.catalog.specs.catalog_tables.declared.error.CatalogError.{CatalogError}
use Rattle.catalog.specs.catalog_tables.declared.error.CatalogError.TheVariants as answer
use Rattle.directory_store.specs.Places.{block_read}
use Rattle.directory_store.specs.Reading.{ArePartOf}
use Rattle.directory_store.specs.Stores.{Keeps, Stored}
use Rattle.status_register.specs.Answers.{Surveyed}
use Rattle.status_register.specs.declared.member.Member.{Member}
use Rattle.status_table.specs.Changes.{majority_of}
use Rattle.group_recovery.specs.Alike.{first_stranger, shape_in}
use Rattle.group_recovery.specs.Finding.{AreThere}
use Rattle.group_recovery.specs.Founds.{FoundDisks}
use Rattle.group_recovery.specs.Loads.{LoadRefusal, copies_read}
use Rattle.group_recovery.specs.Missing.{first_missing}
use Rattle.group_recovery.specs.Surveying.{IsSurveyedNow, SurveyCause}
use Rattle.group_recovery.specs.Verdicts.{members_with}
use Rattle.group_recovery.specs.declared.error.MountError.{MountError}
use Rattle.group_recovery.specs.declared.error.MountError.TheVariants as error
use Rattle.group_recovery.specs.declared.finding.Headed.{Headed}
use Rattle.group_recovery.specs.declared.quorum.GroupRead.{GroupRead}
use Rattle.group_recovery.specs.declared.quorum.MountOption.{MountOption}
use Rattle.group_recovery.specs.declared.quorum.MountOption.TheVariants.{NoForce}
use Rattle.group_recovery.specs.declared.quorum.Quorate.{Quorate}

-- the catalog of the store's records, for this record and shape
pub record IsCatalogIn (store : Stored) (status : Status) (shape : Shape) (c : Catalogued) : Type 0 where
  pub catalog : IsCatalogOf store.table.records status.entries c
  pub shape_is : c.shape ≡ shape

-- What was read of a group is what each image that a stop may leave now says: a majority of each set of the record, copies of the greatest
-- commit number that the store keeps, and the catalog of their records.
pub record IsQuorum (q : Quorate) (state : BayState) : Type 0 where
  pub there : AreThere q.slots q.headed.items state
  pub survey : IsSurveyedNow q.slots q.id q.survey state
  -- those that were surveyed are members of the id
  pub among : (m : Member) → IsAmong q.survey.members m → IsAmong (members_with q.id q.headed.items) m
  -- the members are disks of one group
  pub alike : first_stranger q.id q.headed.items ≡ None
  pub shape : shape_in q.id q.headed.items ≡ Some q.shape
  pub copies : ArePartOf q.store.copies (copies_read q.id q.headed.items q.survey)
  pub some : 0 < length q.store.copies
  pub kept : Keeps q.store state
  pub catalog : IsCatalogIn q.store q.survey.value q.shape q.catalog

-- The same of the disks that were found, before the catalog is made.
pub record IsReadOf (found : FoundDisks) (read : GroupRead) (state : BayState) : Type 0 where
  pub there : AreThere found.slots found.headed state
  pub survey : IsSurveyedNow found.slots found.id read.survey state
  pub among : (m : Member) → IsAmong read.survey.members m → IsAmong (members_with found.id found.headed) m
  pub alike : first_stranger found.id found.headed ≡ None
  pub shape : shape_in found.id found.headed ≡ Some read.shape
  pub copies : ArePartOf read.store.copies (copies_read found.id found.headed read.survey)
  pub some : 0 < length read.store.copies
  pub kept : Keeps read.store state
  -- an epoch is left for the claim
  pub epoch : read.survey.epoch + 1 < 2 ^ 64

-- so it is of the disks that were found
pub record IsQuorate (option : MountOption) (found : FoundDisks) (q : Quorate) (t : BayState) : Type 0 where
  pub id_is : q.id ≡ found.id
  pub slots_are : q.slots ≡ found.slots
  pub headed_are : q.headed.items ≡ found.headed
  pub quorum : IsQuorum q t
  -- unless the mount is forced, no disk is missing
  pub complete : option ≡ NoForce → first_missing found.id found.headed q.survey.value.entries ≡ None
  -- an epoch is left for the claim
  pub epoch : q.survey.epoch + 1 < 2 ^ 64

-- ---- refusals

-- The epoch that was read is the last one: no disk can take a claim above it, and a majority of the record's holders is needed.
abbrev pub IsLastEpochRefusal : Surveyed → MountError → Type 0
IsLastEpochRefusal survey (error.NoMajority seen need) = (survey.epoch + 1 ≡ 2 ^ 64) × (seen ≡ 0) × (need ≡ majority_of survey.value.holders)
IsLastEpochRefusal survey other = ⊥

-- A member's header isn't that of a disk of the group: its body is named. Or no image is a member.
abbrev pub IsStrangerRefusal : ℕ → List Headed → MountError → Type 0
IsStrangerRefusal id headed (error.Damaged slot block) = (first_stranger id headed ≡ Some slot) × (block ≡ 1)
IsStrangerRefusal id headed error.NoGroup = shape_in id headed ≡ None
IsStrangerRefusal id headed other = ⊥

-- the place is that of the record of this key, which is at fault
pub record IsFaultPlace (store : Stored) (status : Status) (shape : Shape) (slot block : ℕ) : Type 0 where
  pub key : Key
  pub fault : IsAtFault store.table.records shape status.entries key
  pub slot_is : slot ≡ store.read.slot
  pub block_is : block ≡ block_read store key

abbrev pub CatalogRefusal : Stored → Status → Shape → MountError → Type 0
CatalogRefusal store status shape (error.Damaged slot block) = IsFaultPlace store status shape slot block
CatalogRefusal store status shape error.NoMemory = ⊤
CatalogRefusal store status shape other = ⊥

-- a refusal of a catalog as one of a mount
abbrev pub IsFaultAt : Stored → Key → MountError → Type 0
IsFaultAt store key (error.Damaged slot block) = (slot ≡ store.read.slot) × (block ≡ block_read store key)
IsFaultAt store key other = ⊥

abbrev pub RefusesCatalog : Stored → CatalogError → MountError → Type 0
RefusesCatalog store (answer.Damaged key) e = IsFaultAt store key e
RefusesCatalog store answer.NoMemory e = e ≡ error.NoMemory

-- the entry's disk is named, or memory is wanting
abbrev pub MissingCause : Tables → Entry → MountError → Type 0
MissingCause t e (error.MissingDisk number name) = (number ≡ e.number) × (option_map (λ (i : DiskInfo). i.name) (info_at t.disks number) ≡ Some name)
MissingCause t e error.NoMemory = ⊤
MissingCause t e other = ⊥

-- the mount isn't forced, and this disk is missing
abbrev pub IsMissingRefusal : MountOption → Tables → Option Entry → MountError → Type 0
IsMissingRefusal option t missing e = (option ≡ NoForce) × (entry : Entry) × (missing ≡ Some entry) × MissingCause t entry e

-- what was read, with the catalog
pub record IsCatalogued (option : MountOption) (id slots : ℕ) (headed : List Headed) (read : GroupRead) (q : Quorate) : Type 0 where
  pub id_is : q.id ≡ id
  pub slots_are : q.slots ≡ slots
  pub headed_are : q.headed.items ≡ headed
  pub survey_is : q.survey ≡ read.survey
  pub shape_is : q.shape ≡ read.shape
  pub store_is : q.store ≡ read.store
  pub catalog : IsCatalogIn read.store read.survey.value read.shape q.catalog
  pub complete : option ≡ NoForce → first_missing id headed read.survey.value.entries ≡ None

-- a record is at fault, or by the catalog a disk is missing
abbrev pub CataloguedCause : MountOption → ℕ → List Headed → GroupRead → MountError → Type 0
CataloguedCause option id headed read e = CatalogRefusal read.store read.survey.value read.shape e
    ⊎ ((c : Catalogued) × IsCatalogIn read.store read.survey.value read.shape c × IsMissingRefusal option c.tables (first_missing id headed read.survey.value.entries) e)

-- the store has the directories that were loaded from copies of the found disks
pub record IsStoreLoaded (found : FoundDisks) (survey : Surveyed) (store : Stored) (shape : Shape) (t : BayState) : Type 0 where
  pub copies : ArePartOf store.copies (copies_read found.id found.headed survey)
  pub kept : Keeps store t
  pub shape_is : shape_in found.id found.headed ≡ Some shape

-- a record of the directories that were loaded is at fault
pub record IsDamagedRefusal (found : FoundDisks) (survey : Surveyed) (e : MountError) (t : BayState) : Type 0 where
  pub store : Stored
  pub shape : Shape
  pub loaded : IsStoreLoaded found survey store shape t
  pub cause : CatalogRefusal store survey.value shape e

-- by the directories that were loaded a disk is missing
pub record IsForceRefusal (option : MountOption) (found : FoundDisks) (survey : Surveyed) (e : MountError) (t : BayState) : Type 0 where
  pub store : Stored
  pub shape : Shape
  pub catalog : Catalogued
  pub loaded : IsStoreLoaded found survey store shape t
  pub catalogued : IsCatalogIn store survey.value shape catalog
  pub cause : IsMissingRefusal option catalog.tables (first_missing found.id found.headed survey.value.entries) e

-- What was read before a refusal that comes behind the survey, and which one it is.
pub record IsRefusedAfter (option : MountOption) (found : FoundDisks) (e : MountError) (s t : BayState) : Type 0 where
  pub survey : Surveyed
  pub surveyed : IsSurveyedNow found.slots found.id survey t
  pub cause : IsLastEpochRefusal survey e ⊎ (IsStrangerRefusal found.id found.headed e ⊎ (LoadRefusal (copies_read found.id found.headed survey) s t e
      ⊎ (IsDamagedRefusal found survey e t ⊎ IsForceRefusal option found survey e t)))

-- Why a group isn't quorate: by its survey, or by what comes behind it.
abbrev pub QuorumCause : MountOption → FoundDisks → MountError → BayState → BayState → Type 0
QuorumCause option found e s t = SurveyCause found.id found.headed e s t ⊎ IsRefusedAfter option found e s t
