-- Which disks of a group failed in a call on its bytes.
use Rattle.std.specs.Prelude.{◌≡◌, ℕ, ◌<◌, true, Some}
use Rattle.bay.specs.State.{BayState}
use Rattle.asm_base.specs.declared.kinds.ExtentId.{ExtentId}
use Rattle.asm_formats.specs.Sets.{has_bit}
use Rattle.record_laws.specs.group_engine.Mounts.{MountedGroup, RoseOnDisk}
use Rattle.group_pieces.specs.Copies.{AllFailed}
use Rattle.group_pieces.specs.Usable.{first_disk, places_at}

-- each disk of the set is attached, and its slot failed
abbrev pub AreRisen : MountedGroup → ℕ → BayState → BayState → Type 0
AreRisen m failed s t = (k : ℕ) → k < 64 → has_bit failed k ≡ true → RoseOnDisk m k s t

-- the slots of all usable copies of an extent failed, and the disk is that of the first
pub record IsFault (m : MountedGroup) (x : ExtentId) (inner : ℕ) (s t : BayState) (disk : ℕ) : Type 0 where
  pub all : AllFailed (places_at m x inner) s t
  pub first : first_disk (places_at m x inner) ≡ Some disk
  pub rose : RoseOnDisk m disk s t
