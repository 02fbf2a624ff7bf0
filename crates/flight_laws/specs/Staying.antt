-- What the disks of a mounted group hold, and what was copied of the move that is on its way, over calls of the group.
use Rattle.std.specs.Prelude.{◌≡◌, ◌⊎◌, ℕ, List, Some, None, IsTrue}
use Rattle.std.specs.Option.{is_some}
use Rattle.bay.specs.Image.{ChangesOnly, Range}
use Rattle.bay.specs.Moments.{NowOnly, Runs}
use Rattle.bay.specs.State.{BayState}
use Rattle.asm_group.specs.Group.{Group}
use Rattle.asm_group.specs.Shape.{Shape, is_shape}
use Rattle.asm_formats.specs.Items.{Key}
use Rattle.asm_formats.specs.Status.{Status, entry_of}
use Rattle.asm_base.specs.Records.{DirectoryRecord}
use Rattle.asm_placement.specs.Layout.{units_of}
use Rattle.asm_images.specs.Kept.{Kept}
use Rattle.asm_images.specs.WriteLaws.{AreApart}
use Rattle.catalog_tables.specs.Tables.{AreTables, Tables}
use Rattle.group_of.specs.Describing.{HaveGroup}
use Rattle.group_engine.specs.declared.flight.Flight.{Flight}
use Rattle.group_engine.specs.Becoming.{HoldsIn}
use Rattle.group_engine.specs.Commits.{LeadsTo}
use Rattle.group_engine.specs.Mounts.{IsOwn, MountedGroup, Mounts, slot_at}
use Rattle.flight_laws.specs.Elsewhere.{IsUserHome, LieInUnits, NoneKnownIn, OnMetadata}
use Rattle.flight_laws.specs.Flying.{FlightAgrees}
use Rattle.record_laws.specs.Holding.{KeepsNoMore}

-- The tables describe some group of this shape under the record.
pub record DescribeSome (r : Status) (u : Tables) (s : Shape) : Type 0 where
  pub tables : AreTables u
  pub group : Group
  pub shape : group.shape ≡ s
  pub describes : HaveGroup r u group

-- So do the tables of a mounted group, and those to which a change leads.
abbrev pub MountedDescribe : BayState → Type 0
MountedDescribe s = (n : ℕ) (m : MountedGroup) (g : Group) (kept : Kept) → Mounts n m s g kept → DescribeSome m.register.value m.catalog.tables m.catalog.shape

abbrev pub LedDescribe : BayState → Type 0
LedDescribe s =
    (n : ℕ) (m : MountedGroup) (put : List DirectoryRecord) (gone : List Key) (g h : Group) (kept : Kept) (to : LeadsTo n m put gone s g h kept) → DescribeSome m.register.value to.tables m.catalog.shape

-- A group of the shape of a mounted one, which the disks hold by its tables.
pub record HeldBeside (n : ℕ) (m : MountedGroup) (s : BayState) (g k : Group) (kept : Kept) : Type 0 where
  pub mounts : Mounts n m s g kept
  pub shape : k.shape ≡ g.shape
  pub holds : NowOnly s (HoldsIn m.register.id m.register.value m.catalog.tables k)

-- The group after a call has the id that it had, no disk more is kept, and the move that was on its way goes on or was given up.
pub record KeepsFlight (old new : MountedGroup) : Type 0 where
  pub id : new.register.id ≡ old.register.id
  pub kept : KeepsNoMore old.register.value new.register.value
  pub flight : (new.flight ≡ old.flight) ⊎ (new.flight ≡ None)

-- the new home of the move that is on its way lies behind the directory region, on a disk with an entry
abbrev pub HasPlaceToGo : MountedGroup → Type 0
HasPlaceToGo m = (f : Flight) → m.flight ≡ Some f → IsUserHome m.catalog.shape f.to × IsTrue (is_some (entry_of m.register.value.entries f.to.disk))

-- where that home lies on disk d, it lies apart from the run of units
abbrev pub FliesApart : MountedGroup → (d unit len : ℕ) → Type 0
FliesApart m d unit len = (f : Flight) → m.flight ≡ Some f → f.to.disk ≡ d → AreApart unit len f.to.unit (units_of m.catalog.shape.step f.x.index)

-- ---- calls that change claims, status records and directory copies alone

-- What the disks hold by such tables, of any group of the shape, they hold under each later record by which no disk more is kept.
abbrev pub HeldOverMetadata : BayState → BayState → Type 0
HeldOverMetadata s t =
    (m : MountedGroup) (u : Tables) (k : Group) (next : Status) → IsTrue (is_shape m.catalog.shape) → DescribeSome m.register.value u m.catalog.shape → k.shape ≡ m.catalog.shape
    → KeepsNoMore m.register.value next → Runs (IsOwn m) (OnMetadata m.catalog.shape) s t → NowOnly s (HoldsIn m.register.id m.register.value u k)
    → NowOnly t (HoldsIn m.register.id next u k)

-- What was copied agrees still.
abbrev pub FlightOverMetadata : BayState → BayState → Type 0
FlightOverMetadata s t =
    (n : ℕ) (old new : MountedGroup) (g k : Group) (kept : Kept) → Mounts n old s g kept → k.shape ≡ g.shape → HasPlaceToGo old → KeepsFlight old new
    → Runs (IsOwn old) (OnMetadata old.catalog.shape) s t → FlightAgrees old s k → FlightAgrees new t k

-- ---- calls that change bytes of units in which nothing is known

-- What the disks hold they hold still.
abbrev pub HeldOverSpare : BayState → BayState → Type 0
HeldOverSpare s t =
    (n : ℕ) (m : MountedGroup) (g k : Group) (kept : Kept) (d slot unit len at count : ℕ) → HeldBeside n m s g k kept → slot_at m.disks d ≡ Some slot
    → LieInUnits m.catalog.shape.au unit len at count → NoneKnownIn m.catalog.tables k d unit len → Runs (IsOwn m) (ChangesOnly (Range slot at count)) s t
    → NowOnly t (HoldsIn m.register.id m.register.value m.catalog.tables k)

-- What was copied agrees still, where the new home lies apart.
abbrev pub FlightOverSpare : BayState → BayState → Type 0
FlightOverSpare s t =
    (n : ℕ) (m : MountedGroup) (g k : Group) (kept : Kept) (d slot unit len at count : ℕ) → Mounts n m s g kept → k.shape ≡ g.shape → slot_at m.disks d ≡ Some slot
    → LieInUnits m.catalog.shape.au unit len at count → FliesApart m d unit len → Runs (IsOwn m) (ChangesOnly (Range slot at count)) s t → FlightAgrees m s k → FlightAgrees m t k
