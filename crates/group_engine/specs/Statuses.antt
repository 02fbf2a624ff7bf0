-- What the writing of a group's status record does.
use Rattle.std.specs.Prelude.{◌≡◌, ℕ, ◌+◌, ◌≤◌, false, List, [], ◌∷◌, IfErr, IsTrue, OnErr, OnOk, Result}
use Rattle.bay.specs.State.{BayState}
use Rattle.bay.specs.Moments.{LeavesOnly}
use Rattle.rebalance.specs.allocator.UnitMaps.{UnitMap}
use Rattle.refusal_lines.specs.declared.refusal.Refusal.{Refusal}
use Rattle.asm_formats.specs.Following.{Follows}
use Rattle.asm_formats.specs.Sets.{elements}
use Rattle.asm_formats.specs.Status.{Status, is_status}
use Rattle.asm_formats.specs.Among.{IsAmong}
use Rattle.directory_store.specs.change_directory.declared.copy.DirCopy.{DirCopy}
use Rattle.asm_group.specs.Group.{Group}
use Rattle.asm_images.specs.Kept.{Kept}
use Rattle.rebalance.specs.catalog_tables.Placing.{HasUnits, HaveSameUnits}
use Rattle.status_register.specs.Holders.{with_next_number}
use Rattle.status_register.specs.Reaching.{Reaches}
use Rattle.group_engine.specs.Commits.{StandsIn, StatusCause, turns_at_most}
use Rattle.group_engine.specs.Mounts.{HaveBirths, IsCopyOf, IsMounted, MountedGroup, Mounts}
use Rattle.group_engine.specs.Own.{KeepsGroup}
use Rattle.group_engine.specs.Recorded.{MayGet}

-- The record names copies of the store alone, each on its attached disk.
pub record NamesCopies (m : MountedGroup) (next : Status) : Type 0 where
  pub each : (c : DirCopy) → IsAmong m.store.copies c → IsAmong (elements next.directories) c.number
      → IsCopyOf next m.register.members m.catalog.shape c
  pub all : (d : ℕ) → IsAmong (elements next.directories) d → (c : DirCopy) × IsAmong m.store.copies c × (c.number ≡ d)

-- What a record must have so that a mounted group may get it: it is one of the group, follows the one that holds, is reached by the
-- attached disks and has their births, names copies of the store alone, and its entries have room for all homes.
pub record IsNextOf (m : MountedGroup) (next : Status) : Type 0 where
  pub status : IsTrue (is_status next)
  pub group : next.id ≡ m.register.value.id
  pub alive : next.gone ≡ false
  pub follows : Follows m.register.value next
  pub reached : Reaches m.register.members next
  pub births : HaveBirths next m.register.members
  pub copies : NamesCopies m next
  pub units : (us : List UnitMap) × HasUnits m.catalog.shape next.entries m.catalog.tables us

-- The writing of a record on a group that takes calls.
pub record WritesStatus (old : MountedGroup) (next : Status) (answer : Result (Unit {0}) Refusal) (new : MountedGroup)
    (s t : BayState) : Type 0 where
  pub keeps : KeepsGroup old new s t
  pub flight : new.flight ≡ old.flight
  pub tables : new.catalog.tables ≡ old.catalog.tables
  pub units : HaveSameUnits old.register.value.entries next.entries → new.catalog.units ≡ old.catalog.units
  pub mounted : OnOk answer (IsMounted new)
  pub recorded : OnOk answer (new.register.value ≡ with_next_number old.register next)
  pub cause : IfErr answer (StatusCause old new s t)
  pub moments : (n : ℕ) (g : Group) (kept : Kept) → MayGet n old next s g kept → LeavesOnly s t (StandsIn n old.register.id (g ∷ []) kept)
  pub done : OnOk answer ((n : ℕ) (g : Group) (kept : Kept) → MayGet n old next s g kept
      → (later : Kept) × (later.slots ≡ kept.slots) × Mounts n new t g later)
  pub refused : IsMounted new → OnErr answer ((n : ℕ) (g : Group) (kept : Kept) → Mounts n old s g kept → Mounts n new t g kept)
  -- the record takes a turn
  pub turns : turns_at_most new ≤ turns_at_most old + 1
