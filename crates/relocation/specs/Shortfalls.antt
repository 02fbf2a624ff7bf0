-- Why a rebalance ends before all is done, by the tables and the record of the group as they are then.
use Rattle.std.specs.Prelude.{◌≡◌, ⊤, ℕ, false, ◌||◌, List, None, IsTrue}
use Rattle.asm_base.specs.declared.kinds.ExtentId.{ExtentId}
use Rattle.asm_group.specs.Shape.{Shape}
use Rattle.asm_formats.specs.Among.{IsAmong}
use Rattle.asm_formats.specs.Items.{Item}
use Rattle.asm_formats.specs.Status.{Entry}
use Rattle.asm_placement.specs.Choices.{is_eligible}
use Rattle.asm_placement.specs.Copies.{Copy, all_copies, can_be_read, units, wants_fill, wants_shift}
use Rattle.asm_placement.specs.Space.{has_room}
use Rattle.resync.specs.catalog_tables.Items.{AreItemsOf}
use Rattle.resync.specs.catalog_tables.Tables.{Tables}
use Rattle.resync.specs.group_engine.Mounts.{MountedGroup}
use Rattle.relocation.specs.declared.asking.Asked.{Asked}
use Rattle.relocation.specs.declared.asking.Asked.TheVariants as asked
use Rattle.relocation.specs.declared.asking.Slice.{Slice}
use Rattle.relocation.specs.declared.asking.Slice.TheVariants as slice

-- The copy is one of the extent's.
pub record IsCopyOfExtent (items : List Item) (x : ExtentId) (copy : Copy) : Type 0 where
  pub among : IsAmong (all_copies items) copy
  pub file : copy.file ≡ x.file
  pub index : copy.index ≡ x.index

-- A copy of the extent is to be elsewhere, and no disk that may take its place has room for it.
pub record LacksPlace (s : Shape) (es : List Entry) (items : List Item) (x : ExtentId) : Type 0 where
  pub copy : Copy
  pub is_copy : IsCopyOfExtent items x copy
  -- it is absent or on a Forced disk, or on a Dropping disk or in the failure group of an earlier copy
  pub wants : IsTrue (wants_fill es copy || wants_shift es copy)
  pub full : (e : Entry) → IsAmong es e → IsTrue (is_eligible es copy.copy copy.homes e) → has_room s items (units s copy) e ≡ false

-- The extent has copies, and none of them is there unmarked on a disk that serves.
pub record LacksSource (es : List Entry) (items : List Item) (x : ExtentId) : Type 0 where
  pub copy : Copy
  pub is_copy : IsCopyOfExtent items x copy
  pub unread : (y : Copy) → IsCopyOfExtent items x y → can_be_read es items y ≡ false

-- by the group's tables and record, no disk can take a copy of the extent that is to be elsewhere
abbrev pub HasNoDiskFor : MountedGroup → ExtentId → Type 0
HasNoDiskFor m x = (items : List Item) → AreItemsOf m.catalog.tables items → LacksPlace m.catalog.shape m.register.value.entries items x

-- by the group's tables and record, no copy of the extent can be read
abbrev pub HasNoSource : MountedGroup → ExtentId → Type 0
HasNoSource m x = (items : List Item) → AreItemsOf m.catalog.tables items → LacksSource m.register.value.entries items x

-- Why a slice of the group's rebalance ends so, where something is left that can't be done.
abbrev pub EndCause : MountedGroup → Slice → Type 0
EndCause m slice.More = ⊤
EndCause m slice.Done = ⊤
EndCause m (slice.NoSpace x) = HasNoDiskFor m x
EndCause m (slice.Lost x) = HasNoSource m x

-- something is left that can't be done
abbrev pub IsSliceShort : Slice → Type 0
IsSliceShort slice.More = ⊥
IsSliceShort slice.Done = ⊥
IsSliceShort (slice.NoSpace x) = ⊤
IsSliceShort (slice.Lost x) = ⊤

-- the claim holds of the end, where what comes next is one
abbrev pub OnEnd : Asked → (Slice → Type 0) → Type 0
OnEnd (asked.Copy flight) claim = ⊤
OnEnd (asked.Directory to) claim = ⊤
OnEnd (asked.Status to) claim = ⊤
OnEnd (asked.End end) claim = claim end
OnEnd asked.Unknown claim = ⊤

-- what comes next is no end
abbrev pub IsNoEnd : Asked → Type 0
IsNoEnd next = OnEnd next (λ end. ⊥)

-- the tables with no active rebalance
abbrev pub without_rebalance : Tables → Tables
without_rebalance t = record t { operations = record t.operations { rebalance = None } }

-- No rebalance is active. All else of the tables is as it was, and so are the shape and the entries of the record.
pub record EndsActive (old new : MountedGroup) : Type 0 where
  pub shape : new.catalog.shape ≡ old.catalog.shape
  pub tables : new.catalog.tables ≡ without_rebalance old.catalog.tables
  pub entries : new.register.value.entries ≡ old.register.value.entries
