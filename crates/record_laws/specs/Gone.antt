-- What the images of a group stand for while it is dropped, and afterwards.
use Rattle.std.specs.Prelude.{ℕ, ◌+◌, ◌<◌, ◌^◌, Bool, [], ◌∷◌, Some}
use Rattle.bay.specs.Image.{Image}
use Rattle.bay.specs.State.{BayState}
use Rattle.bay.specs.Moments.{LeavesOnly, NowOnly}
use Rattle.asm_group.specs.Group.{Group}
use Rattle.asm_formats.specs.Status.{Status}
use Rattle.asm_images.specs.Bridge.{disks_in}
use Rattle.asm_images.specs.Kept.{Kept}
use Rattle.asm_images.specs.Sound.{SoundBy}
use Rattle.asm_images.specs.Stands.{Standing}
use Rattle.status_register.specs.Holders.{with_next_number}
use Rattle.group_engine.specs.Gone.{IsGone, gone_of}
use Rattle.group_engine.specs.Mounts.{MountedGroup, Mounts}

-- the group's record marked gone, under the next number
abbrev pub gone_next : MountedGroup → Status
gone_next m = with_next_number m.register (gone_of m.register.value)

-- The image stands for the group or for nothing, by the history in which that record is begun.
abbrev pub IsGoing : MountedGroup → Group → Image → Type 0
IsGoing m g image = (slots : ℕ) → SoundBy m.register.id (disks_in slots image) (g ∷ []) (Some m.register.value) (gone_next m ∷ [])

-- It stands for no group, by the history in which that record is complete, and whichever disks are left there is no Status with directories.
pub record HoldsNothing (m : MountedGroup) (image : Image) : Type 0 where
  pub sound : (slots : ℕ) → SoundBy m.register.id (disks_in slots image) [] (Some (gone_next m)) []
  pub nothing : (slots : ℕ) (readable : ℕ → Bool) → Standing m.register.id (disks_in slots image) readable → ⊥

-- At each moment while the group is dropped, and once it is.
pub record GoesAway (m : MountedGroup) (g : Group) (s t : BayState) : Type 0 where
  pub moments : LeavesOnly s t (IsGoing m g)
  pub done : NowOnly t (HoldsNothing m)

-- A mounted group that was dropped has gone away.
abbrev pub GoneLeavesNothing : BayState → BayState → Type 0
GoneLeavesNothing s t =
    (n : ℕ) (old new : MountedGroup) (g : Group) (kept : Kept) → Mounts n old s g kept → old.register.turn + 1 < 2 ^ 64 → IsGone old new s t → GoesAway old g s t
