-- What comes before the first write of a creation.
use Rattle.std.specs.Prelude.{◌≡◌, ℕ, ◌<◌, ◌≤◌, All, List, [], None, Result, Some, IfErr, IfOk}
use Rattle.bay.specs.Counts.{last_count}
use Rattle.bay.specs.State.{BayState}
use Rattle.refusal_lines.specs.declared.refusal.Refusal.{Refusal}
use Rattle.refusal_lines.specs.Refusals.{meaning_of}
use Rattle.asm_group.specs.Names.{Bytes}
use Rattle.asm_images.specs.Kept.{header_in}
use Rattle.group_engine.specs.declared.attached.Attached.{Attached}
use Rattle.mounted_groups.specs.Found.{IsSlotOfPath, RefusalCause, ToldByCounts, counts_of}
use Rattle.mounted_groups.specs.Looks.{LooksAtAll}
use Rattle.mounted_groups.specs.Planned.{IsGroupPlan}
use Rattle.mounted_groups.specs.Ready.{AreBodies, HasRoom}
use Rattle.mounted_groups.specs.declared.create.Ready.{Ready}

-- What a creation is asked for: a group of this name on the image at a path, which is one of so many, with an id from the floor on.
pub record AskedCreation : Type 0 where
  pub slots : ℕ
  pub paths : List Bytes
  pub path : Bytes
  pub name : Bytes
  pub floor : ℕ

-- A new group of this name and id, and of so many units, is to be written on a disk.
pub record IsMadeReady (place : Attached) (name : Bytes) (units id : ℕ) (ready : Ready) : Type 0 where
  pub slot : ready.slot ≡ place.slot
  pub size : ready.size ≡ place.size
  pub id_is : ready.group.id ≡ id
  pub name_is : ready.group.name ≡ name
  pub units_are : ready.group.units ≡ units
  pub plan : IsGroupPlan ready.group
  pub bodies : AreBodies ready.bodies ready.group

-- What is ready is what was asked for, and the disk is there for it.
pub record IsReadyFor (asked : AskedCreation) (ids : List ℕ) (ready : Ready) (s t : BayState) : Type 0 where
  pub name : ready.group.name ≡ asked.name
  pub plan : IsGroupPlan ready.group
  pub bodies : AreBodies ready.bodies ready.group
  -- the id is above each that was read, as long as ids don't run out
  pub floor : asked.floor ≤ ready.group.id
  pub above : ready.group.id < last_count → All (λ other. other < ready.group.id) ids
  -- the slot is that of the path
  pub slot : ready.slot < asked.slots
  pub at : IsSlotOfPath asked.paths asked.path ready.slot
  -- the image is attached and long enough, and has no open header
  pub size : t.attached ready.slot ≡ Some ready.size
  pub room : HasRoom ready.slot ready.group.units t
  pub free : ToldByCounts (counts_of s) (counts_of t) (λ image. header_in image ready.slot ≡ None)

-- The images are looked at, and the new group is made ready.
pub record Prepares (asked : AskedCreation) (result : Result Ready Refusal) (ids : List ℕ) (s t : BayState) : Type 0 where
  pub looks : LooksAtAll asked.slots result ids s t
  pub ready : IfOk result (λ ready. IsReadyFor asked ids ready s t)
  pub cause : IfErr result (λ refusal. RefusalCause asked.paths asked.path (meaning_of (λ _. []) refusal) (counts_of s) (counts_of t))
