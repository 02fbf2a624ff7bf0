-- What a mount gives once its record is written anew, and why it isn't.
use Rattle.std.specs.Prelude.{◌≡◌, ◌⊎◌, ⊤, ℕ, ◌<◌, ◌==◌, ◌&&◌, true, false, List, [], ◌∷◌, get_or, if◌then◌else◌, Option, Some, None, IsTrue, Bool}
use Rattle.bay.specs.State.{BayState}
use Rattle.bay.specs.Counts.{Rose}
use Rattle.asm_group.specs.Names.{Bytes, is_same_name}
use Rattle.asm_group.specs.Shape.{Shape, is_shape}
use Rattle.asm_formats.specs.Sets.{elements}
use Rattle.asm_formats.specs.Status.{Entry, Status, is_status}
use Rattle.asm_formats.specs.Among.{IsAmong}
use Rattle.directory_store.specs.change_directory.declared.copy.DirCopy.{DirCopy}
use Rattle.directory_store.specs.Stores.{Keeps}
use Rattle.status_register.specs.Answers.{Surveyed}
use Rattle.status_register.specs.Holders.{is_of, with_next_number}
use Rattle.status_register.specs.Keeping.{IsRegisterReady}
use Rattle.status_register.specs.Reaching.{Reaches}
use Rattle.status_register.specs.Registered.{AreNumbered, Registered, register_of}
use Rattle.status_register.specs.Rows.{HaveOwnSlots}
use Rattle.status_register.specs.Surveys.{AreRead, missing}
use Rattle.status_register.specs.Tallies.{HaveSlots}
use Rattle.status_register.specs.declared.member.Member.{Member}
use Rattle.group_recovery.specs.Missing.{has_units}
use Rattle.group_recovery.specs.NextRecord.{IsNextRecord}
use Rattle.group_recovery.specs.Quorum.{IsCatalogIn}
use Rattle.group_recovery.specs.Renewing.{Renews}
use Rattle.group_recovery.specs.Verdicts.{IsSlotIn, member_of, members_with}
use Rattle.group_recovery.specs.declared.error.MountError.{MountError}
use Rattle.group_recovery.specs.declared.error.MountError.TheVariants as error
use Rattle.group_recovery.specs.declared.finding.Headed.{Headed}
use Rattle.group_recovery.specs.declared.quorum.Quorate.{Quorate}
use Rattle.group_recovery.specs.declared.recovering.Anew.{Anew}
use Rattle.group_recovery.specs.declared.recovering.Parts.{Parts}
use Rattle.group_recovery.specs.declared.writing.RenewError.{RenewError}
use Rattle.group_recovery.specs.declared.writing.RenewError.TheVariants as renew

-- the group's name, as the first header of the id has it
abbrev pub name_in : ℕ → List Headed → Option Bytes
name_in id [] = None
name_in id (h ∷ hs) = if h.header.id == id then Some h.header.group else name_in id hs

-- it is this name, without regard to case
abbrev pub is_named : Option Bytes → Bytes → Bool
is_named None name = false
is_named (Some group) name = is_same_name group name

-- the disk is one of the id and of an entry, with at least its units
abbrev pub is_own : ℕ → List Entry → Headed → Bool
is_own id entries h = (h.header.id == id) && (is_of entries (member_of h) && has_units entries h)

-- those, each with the size of its image
abbrev pub disks_with : ℕ → List Entry → List Headed → List (Member × ℕ)
disks_with id entries [] = []
disks_with id entries (h ∷ hs) = if is_own id entries h then (member_of h, h.size) ∷ disks_with id entries hs else disks_with id entries hs

-- those, as the register sees them
abbrev pub own_members : ℕ → List Entry → List Headed → List Member
own_members id entries [] = []
own_members id entries (h ∷ hs) = if is_own id entries h then member_of h ∷ own_members id entries hs else own_members id entries hs

-- what a mount is to write and to give: all of it is made before the first write; a majority of each set is to be attached
pub record IsAnew (q : Quorate) (now : ℕ) (a : Anew) : Type 0 where
  pub next : IsNextRecord q now a.next
  pub status : IsTrue (is_status a.next)
  pub name : name_in q.id q.headed.items ≡ Some a.name
  pub members : a.members.items ≡ own_members q.id a.next.entries q.headed.items
  pub enough : missing a.members.items (Some a.next) ≡ None
  pub disks : a.disks.items ≡ disks_with q.id a.next.entries q.headed.items

-- what the record of a survey is written anew from: these members, which are enough for it, and those that were surveyed have slots of
-- their own
pub record MayRenewRecord (survey : Surveyed) (next : Status) (ms : List Member) (state : BayState) : Type 0 where
  pub slots : HaveSlots state ms
  pub apart : HaveOwnSlots ms
  pub numbers : AreNumbered ms
  pub enough : missing ms (Some next) ≡ None
  pub surveyed : HaveSlots state survey.members
  pub own : HaveOwnSlots survey.members
  pub small : AreNumbered survey.members
  pub status : IsTrue (is_status next)
  pub group : next.id ≡ survey.value.id
  pub renews : Renews survey.value next

-- the record that was written is one of the formats, and the register is reached and takes the next write
pub record StandsAnew (register : Registered) (state : BayState) : Type 0 where
  pub status : IsTrue (is_status register.value)
  pub reached : Reaches register.members register.value
  pub ready : IsRegisterReady register state

-- ---- the parts

-- the member in the place of number i: it has this number, is the disk of its entry, and is one of the disks that were found
pub record IsPlaced (q : Quorate) (entries : List Entry) (i : ℕ) (m : Member) : Type 0 where
  pub number : m.number ≡ i
  pub entry : is_of entries m ≡ true
  pub among : IsAmong (members_with q.id q.headed.items) m

-- the copy is that of an attached disk that the record names
pub record IsAttachedCopy (register : Registered) (s : Shape) (c : DirCopy) : Type 0 where
  pub named : IsAmong (elements register.value.directories) c.number
  pub member : Member
  pub attached : get_or register.members c.number None ≡ Some member
  pub slot : member.slot ≡ c.slot
  pub entry : is_of register.value.entries member ≡ true
  pub pages : c.dir_blocks ≡ s.dir_blocks
  pub sector : c.sector ≡ s.sector

-- the copies are those that the record names
pub record AreAttachedCopies (register : Registered) (s : Shape) (copies : List DirCopy) : Type 0 where
  pub each : (c : DirCopy) → IsAmong copies c → IsAttachedCopy register s c
  pub all : (d : ℕ) → IsAmong (elements register.value.directories) d → (c : DirCopy) × IsAmong copies c × (c.number ≡ d)

-- of each attached member there is its image's size, and of none else
pub record AreDisksOf (register : Registered) (disks : List (Member × ℕ)) (state : BayState) : Type 0 where
  pub each : (x : Member × ℕ) → IsAmong disks x → get_or register.members x.0.number None ≡ Some x.0
  pub small : (x : Member × ℕ) → IsAmong disks x → x.0.number < 64
  pub sizes : (x : Member × ℕ) → IsAmong disks x → state.attached x.0.slot ≡ Some x.1
  pub all : (i : ℕ) (m : Member) → get_or register.members i None ≡ Some m → (size : ℕ) × IsAmong disks (m, size)

-- The register has the record anew, on all attached disks of its entries: it was written, and takes the next write.
pub record IsRegisterAnew (q : Quorate) (next : Status) (register : Registered) (state : BayState) : Type 0 where
  pub value : register.value ≡ with_next_number (register_of q.survey) next
  pub renews : Renews q.survey.value register.value
  pub status : IsTrue (is_status register.value)
  pub alive : register.value.gone ≡ false
  pub group : register.value.id ≡ register.id
  pub own : register.id ≡ q.id
  pub written : register.is_fresh ≡ false
  pub reached : Reaches register.members register.value
  pub members : (i : ℕ) (m : Member) → get_or register.members i None ≡ Some m → IsPlaced q register.value.entries i m
  pub ready : IsRegisterReady register state

-- The parts are those that were read, with the record written anew. They say the same: the tables are those of the store's records, with
-- the units of the record's entries; the store's copies are those that the record names, each on its attached disk; of each attached disk
-- there is the size of its image. The store and the register take the next call.
pub record ArePartsOf (q : Quorate) (now : ℕ) (parts : Parts) (state : BayState) : Type 0 where
  pub id : parts.id ≡ q.id
  pub name : name_in q.id q.headed.items ≡ Some parts.name
  pub shape : parts.shape ≡ q.shape
  pub is_shape : IsTrue (is_shape parts.shape)
  pub store : parts.store ≡ q.store
  pub tables : parts.catalog ≡ q.catalog
  pub next : Status
  pub made : IsNextRecord q now next
  pub register : IsRegisterAnew q next parts.register state
  pub catalog : IsCatalogIn parts.store parts.register.value parts.shape parts.catalog
  pub copies : AreAttachedCopies parts.register parts.shape parts.store.copies
  pub disks : AreDisksOf parts.register parts.disks.items state
  -- these are the found images of entries that have at least their units, and no others
  pub attached : parts.disks.items ≡ disks_with q.id parts.register.value.entries q.headed.items
  pub keeps : Keeps parts.store state

-- ---- refusals

-- the disk of a slot is named, or memory is wanting
abbrev pub DeadCause : List Headed → ℕ → MountError → Type 0
DeadCause headed slot (error.Dead s name) = (s ≡ slot) × (h : Headed) × IsAmong headed h × (h.slot ≡ slot) × (h.header.disk ≡ name)
DeadCause headed slot error.NoMemory = ⊤
DeadCause headed slot other = ⊥

-- the refusal of a record anew as one of a mount
abbrev pub RefusesAnew : List Headed → RenewError → MountError → Type 0
RefusesAnew headed (renew.NoMajority seen need) e = e ≡ error.NoMajority seen need
RefusesAnew headed (renew.Dead slot) e = DeadCause headed slot e

-- the refusal is that of a set of which so many disks are there, and so many are needed
abbrev pub IsShortRefusal : Option (ℕ × ℕ) → MountError → Type 0
IsShortRefusal numbers (error.NoMajority seen need) = numbers ≡ Some (seen, need)
IsShortRefusal numbers other = ⊥

-- why there is nothing to write: so few disks of a set are there with all their units, or memory is wanting
abbrev pub AnewCause : Quorate → MountError → Type 0
AnewCause q (error.NoMajority seen need) = missing (own_members q.id q.survey.value.entries q.headed.items) (Some q.survey.value) ≡ Some (seen, need)
AnewCause q error.NoMemory = ⊤
AnewCause q other = ⊥

-- So few members took the claim, or so few disks of a set are there with all their units; or a member's slot failed while the record was
-- written, and its disk is named.
abbrev pub RecoverCause : Quorate → MountError → BayState → BayState → Type 0
RecoverCause q (error.NoMajority seen need) s t =
    ((took : List Member) × AreRead (λ slot. Rose (s.faults slot) (t.faults slot)) q.survey.members took
    × (missing took (Some q.survey.value) ≡ Some (seen, need))) ⊎ AnewCause q (error.NoMajority seen need)
RecoverCause q (error.Dead slot name) s t = IsSlotIn q.headed.items slot × Rose (s.faults slot) (t.faults slot) × DeadCause q.headed.items slot (error.Dead slot name)
RecoverCause q error.NoMemory s t = ⊤
RecoverCause q other s t = ⊥
