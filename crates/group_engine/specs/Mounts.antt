-- A mounted group as contracts see it, and what ties it to the disks between two calls.
use Rattle.std.specs.Prelude.{◌≡◌, ℕ, ◌+◌, ◌<◌, ◌^◌, Bool, false, true, List, [], ◌∷◌, get_or, Option, Some, None, IsTrue, ◌↔◌}
use Rattle.std.specs.Option.{option_map}
use Rattle.bay.specs.Counts.{Rose}
use Rattle.bay.specs.Image.{Image}
use Rattle.bay.specs.State.{BayState}
use Rattle.bay.specs.Moments.{NowOnly}
use Rattle.asm_group.specs.Names.{Bytes}
use Rattle.asm_group.specs.Shape.{Shape, is_shape}
use Rattle.asm_group.specs.Group.{Group}
use Rattle.asm_formats.specs.Items.{Item, Key}
use Rattle.asm_formats.specs.Sets.{elements}
use Rattle.asm_formats.specs.Status.{Entry, Status, entry_of, is_status}
use Rattle.asm_base.specs.Records.{record_at}
use Rattle.asm_formats.specs.Among.{IsAmong}
use Rattle.asm_images.specs.Describing.{DescribesGroup}
use Rattle.asm_images.specs.Kept.{Kept, IsHeld, IsMemberIn}
use Rattle.directory_store.specs.change_directory.declared.copy.DirCopy.{DirCopy}
use Rattle.directory_store.specs.Stores.{Stored}
use Rattle.directory_store.specs.Stores as stores
use Rattle.status_register.specs.Holders.{is_of}
use Rattle.status_register.specs.Keeping as registers
use Rattle.status_register.specs.Reaching.{Reaches}
use Rattle.status_register.specs.Registered.{Registered}
use Rattle.status_register.specs.declared.member.Member.{Member}
use Rattle.rebalance.specs.catalog_tables.Items.{AreItemsOf}
use Rattle.rebalance.specs.catalog_tables.Placing.{HasUnits}
use Rattle.rebalance.specs.catalog_tables.Tables.{AreTables, Catalogued, records_of}
use Rattle.group_engine.specs.declared.attached.Attached.{Attached}
use Rattle.group_engine.specs.declared.flight.Flight.{Flight}
use Rattle.group_engine.specs.declared.access.Access.{Access}
use Rattle.group_engine.specs.declared.access.Access.TheVariants as access

-- the group's name, its tables, the records on its copies, its status on its disks, of each disk number the slot and the size of the
-- attached disk's image, the move that is in flight, and whether it takes calls
pub record MountedGroup : Type 0 where
  pub name : Bytes
  pub catalog : Catalogued
  pub store : Stored
  pub register : Registered
  pub disks : List (Option Attached)
  pub flight : Option Flight
  pub access : Access

-- the group takes calls
abbrev pub IsMounted : MountedGroup → Type 0
IsMounted m = m.access ≡ access.Mounted

-- the slot of the image of disk k
abbrev pub slot_at : List (Option Attached) → ℕ → Option ℕ
slot_at disks k = option_map (λ (a : Attached). a.slot) (get_or disks k None)

-- the slot is that of an attached disk
abbrev pub IsOwn : MountedGroup → ℕ → Type 0
IsOwn m slot = (i : ℕ) × (k : Member) × (get_or m.register.members i None ≡ Some k) × (slot ≡ k.slot)

-- the disk of this number is attached, and its slot failed
abbrev pub RoseOnDisk : MountedGroup → ℕ → BayState → BayState → Type 0
RoseOnDisk m d s t = (slot : ℕ) × (slot_at m.disks d ≡ Some slot) × Rose (s.faults slot) (t.faults slot)

-- ---- without the disks

-- the copy is that of an attached disk that the record names
pub record IsCopyOf (r : Status) (members : List (Option Member)) (s : Shape) (c : DirCopy) : Type 0 where
  pub named : IsAmong (elements r.directories) c.number
  pub member : Member
  pub attached : get_or members c.number None ≡ Some member
  pub slot : member.slot ≡ c.slot
  pub entry : is_of r.entries member ≡ true
  pub pages : c.dir_blocks ≡ s.dir_blocks
  pub sector : c.sector ≡ s.sector

-- the store's copies are those that the record names
pub record AreCopiesOf (r : Status) (members : List (Option Member)) (s : Shape) (copies : List DirCopy) : Type 0 where
  pub each : (c : DirCopy) → IsAmong copies c → IsCopyOf r members s c
  pub all : (d : ℕ) → IsAmong (elements r.directories) d → (c : DirCopy) × IsAmong copies c × (c.number ≡ d)

-- each attached disk has the birth that the record's entry of its number has
abbrev pub HaveBirths : Status → List (Option Member) → Type 0
HaveBirths r members = (d : ℕ) (x : Member) (e : Entry) → get_or members d None ≡ Some x → entry_of r.entries d ≡ Some e → x.birth ≡ e.birth

-- The parts of a mounted group say the same.
pub record IsWhole (m : MountedGroup) : Type 0 where
  -- the tables are those of the store's records
  pub are_tables : AreTables m.catalog.tables
  pub tables : (k : Key) → records_of m.catalog.tables k ≡ record_at m.store.table.records k
  -- the shape is one of the formats, and the units are those of the record's entries
  pub shape : IsTrue (is_shape m.catalog.shape)
  pub units : HasUnits m.catalog.shape m.register.value.entries m.catalog.tables m.catalog.units
  -- the record is one of the formats that was written, and isn't marked gone; a majority of each of its sets is attached
  pub status : IsTrue (is_status m.register.value)
  pub alive : m.register.value.gone ≡ false
  pub written : m.register.is_fresh ≡ false
  pub group : m.register.value.id ≡ m.register.id
  pub reached : Reaches m.register.members m.register.value
  pub numbers : (i : ℕ) (x : Member) → get_or m.register.members i None ≡ Some x → x.number ≡ i
  pub births : HaveBirths m.register.value m.register.members
  -- the store's copies are those that the record names
  pub copies : AreCopiesOf m.register.value m.register.members m.catalog.shape m.store.copies
  -- of each attached disk the slot
  pub disks : (d : ℕ) → slot_at m.disks d ≡ option_map (λ (x : Member). x.slot) (get_or m.register.members d None)

-- The tables say what the group is, but for its bytes.
pub record Represents (m : MountedGroup) (g : Group) : Type 0 where
  pub name : g.name ≡ m.name
  pub shape : g.shape ≡ m.catalog.shape
  pub describes : (items : List Item) → AreItemsOf m.catalog.tables items → DescribesGroup m.register.value items g

-- ---- with the disks

-- each attached disk has the size that is told of it
abbrev pub HaveSizes : List (Option Attached) → BayState → Type 0
HaveSizes disks state = (d : ℕ) (a : Attached) → get_or disks d None ≡ Some a → state.attached a.slot ≡ Some a.size

-- What a call needs on every bay: its store takes commits, its register may be written, and the attached disks have their sizes.
pub record IsReady (m : MountedGroup) (state : BayState) : Type 0 where
  pub store : stores.Keeps m.store state
  pub register : registers.IsRegisterReady m.register state
  pub sizes : HaveSizes m.disks state

-- While the group is mounted, its parts agree and it takes the next call.
abbrev pub Takes : MountedGroup → BayState → Type 0
Takes m state = IsMounted m → IsWhole m × IsReady m state

-- the slots that are kept are those of the attached disks
abbrev pub AreOwn : MountedGroup → (ℕ → Bool) → Type 0
AreOwn m slots = (slot : ℕ) → (slots slot ≡ true) ↔ IsOwn m slot

-- each member is attached
abbrev pub HasOnly : ℕ → Kept → Image → Type 0
HasOnly id kept image = (slot : ℕ) → IsMemberIn id image slot → kept.slots slot ≡ true

-- What ties a mounted group to the disks of n slots, between two calls: each image that a stop may leave now is held for the group.
pub record Mounts (n : ℕ) (m : MountedGroup) (state : BayState) (g : Group) (kept : Kept) : Type 0 where
  pub whole : IsWhole m
  pub ready : IsReady m state
  pub represents : Represents m g
  pub own : AreOwn m kept.slots
  pub completed : kept.completed ≡ m.register.value
  pub begun : kept.begun ≡ []
  pub register : registers.FitsRegister n m.register (Some m.register.value) [] state
  pub now : NowOnly state (IsHeld n m.register.id (g ∷ []) kept)

-- The group is mounted, and a record may follow: turns don't run out.
pub record MayRecord (n : ℕ) (m : MountedGroup) (state : BayState) (g : Group) (kept : Kept) : Type 0 where
  pub mounts : Mounts n m state g kept
  pub turns : m.register.turn + 1 < 2 ^ 64
