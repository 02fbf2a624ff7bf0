-- What a command has to do to disks beside the world, before it is answered ok.
use Rattle.std.specs.Prelude.{◌≡◌, ⊤, ℕ, List, Option, Some, None, Contains}
use Rattle.std.specs.Option.{ForSome}
use Rattle.bay.specs.Counts.{Rose}
use Rattle.bay.specs.Image.{Image, Makes}
use Rattle.bay.specs.Moments.{Ends}
use Rattle.bay.specs.State.{BayState}
use Rattle.asm_group.specs.Names.{Bytes}
use Rattle.group_contents.specs.asm_images.Kept.{IsMemberIn}
use Rattle.asm_world.specs.Below.{GroupBelow}
use Rattle.asm_world.specs.Command.{Command, Said}
use Rattle.asm_world.specs.Reply.{Reply, Done, Refused}
use Rattle.asm_world.specs.Statement.{CreateDisk, DropGroup}
use Rattle.asm_world.specs.World.{SessionEntry, World, entry_in}
use Rattle.session_claims.specs.mounted_groups.Found.{Counts, IsSlotOfPath, counts_of}

pub data DiskWork : Type 0 where
  NoWork : DiskWork
  -- the image of a path is made anew, with a size in bytes
  MakeDisk : (path : Bytes) (size : ℕ) → DiskWork
  -- the headers of an id are closed, on its attached disks, which are in these slots
  CloseHeaders : (id : ℕ) (slots : List ℕ) → DiskWork

abbrev pub closing_work : Option SessionEntry → (ℕ → GroupBelow) → DiskWork
closing_work None below = NoWork
closing_work (Some entry) below = CloseHeaders entry.id (below entry.id).attached

-- what a command has to do
abbrev pub work_of : Command → World → (ℕ → GroupBelow) → DiskWork
work_of (Said (CreateDisk path size)) w below = MakeDisk path size
work_of (Said (DropGroup name contents)) w below = closing_work (entry_in w name) below
work_of other w below = NoWork

-- the disk of the slot is n zeros
pub record IsZeros (slot n : ℕ) (image : Image) : Type 0 where
  pub size : image.size slot ≡ n
  pub zeros : (k : ℕ) → image.byte slot k ≡ 0

-- The path's slot is attached with the size, and where the bay tells it, its disk is zeros.
pub record IsMadeAnew (paths : List Bytes) (path : Bytes) (size : ℕ) (t : Counts) : Type 0 where
  pub slot : ℕ
  pub is_slot : IsSlotOfPath paths path slot
  pub attached : t.attached slot ≡ Some size
  pub zeros : ForSome t.holds (λ image. IsZeros slot size image)

-- No disk in these slots whose count didn't rise is a member of the id, where the bay tells what it holds.
pub record AreNoMembers (id : ℕ) (slots : List ℕ) (s t : Counts) : Type 0 where
  pub each : (slot : ℕ) → Contains slots slot → (Rose (s.faults slot) (t.faults slot) → ⊥) → ForSome t.holds (λ image. IsMemberIn id image slot → ⊥)

abbrev pub IsWorkDone : List Bytes → DiskWork → Counts → Counts → Type 0
IsWorkDone paths NoWork s t = ⊤
IsWorkDone paths (MakeDisk path size) s t = IsMadeAnew paths path size t
IsWorkDone paths (CloseHeaders id slots) s t = AreNoMembers id slots s t

-- ok comes once the work is done
abbrev pub ReplyWork : List Bytes → DiskWork → Reply → Counts → Counts → Type 0
ReplyWork paths work (Done lines) s t = IsWorkDone paths work s t
ReplyWork paths work (Refused lines cause) s t = ⊤

-- ---- laws

-- A `make` of the path's slot that was done does the work of CREATE DISK.
abbrev pub MakingDoes : BayState → BayState → Type 0
MakingDoes old new = (paths : List Bytes) (path : Bytes) (slot size : ℕ) → IsSlotOfPath paths path slot → new.attached slot ≡ Some size → Ends (Makes slot size) old new
    → IsWorkDone paths (MakeDisk path size) (counts_of old) (counts_of new)

-- Where no slot of the path is attached, it isn't done.
abbrev pub IdlingLeaves : BayState → BayState → Type 0
IdlingLeaves old new = (paths : List Bytes) (path : Bytes) (size : ℕ) → ((slot : ℕ) → IsSlotOfPath paths path slot → new.attached slot ≡ None)
    → IsWorkDone paths (MakeDisk path size) (counts_of old) (counts_of new) → ⊥
