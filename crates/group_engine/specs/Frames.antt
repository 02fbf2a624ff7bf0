-- A mounted group stays mounted over the calls of others.
use Rattle.std.specs.Prelude.{◌≡◌, ◌≢◌, ◌⊎◌, ℕ, List, Some}
use Rattle.bay.specs.Image.{Image, SameDisk}
use Rattle.bay.specs.State.{BayState}
use Rattle.bay.specs.Moments.{LeavesOnly, Runs}
use Rattle.asm_group.specs.Group.{Group}
use Rattle.asm_images.specs.Kept.{Kept, IsHeld}
use Rattle.status_register.specs.Elsewhere.{IsNoMember}
use Rattle.group_engine.specs.Commits.{StandsIn}
use Rattle.group_engine.specs.Mounts.{IsOwn, MountedGroup, Mounts}
use Rattle.group_engine.specs.Own.{KeepsGroup}

-- what is attached stays so, with its size; more may be attached
pub record StaysAttached (old new : BayState) : Type 0 where
  pub stays : (slot size : ℕ) → old.attached slot ≡ Some size → new.attached slot ≡ Some size

-- what is attached to the group stays so, with its size
pub record KeepsOwn (m : MountedGroup) (old new : BayState) : Type 0 where
  pub stays : (slot size : ℕ) → IsOwn m slot → old.attached slot ≡ Some size → new.attached slot ≡ Some size

-- Each disk stays, or is no member of the id before and after.
abbrev pub SparesGroup : ℕ → Image → Image → Type 0
SparesGroup id old new = (slot : ℕ) → SameDisk slot old new ⊎ (IsNoMember id slot old × IsNoMember id slot new)

-- The disks of the members of every other id stay.
abbrev pub SparesOtherIds : ℕ → Image → Image → Type 0
SparesOtherIds own old new = (id : ℕ) → id ≢ own → SparesGroup id old new

-- A group is held where the disks of its members stay, whatever happens to any number of others.
abbrev pub SparedIsHeld : Type 0
SparedIsHeld = (n id : ℕ) (groups : List Group) (kept : Kept) (old new : Image) → SparesGroup id old new → IsHeld n id groups kept old → IsHeld n id groups kept new

-- the disks that are attached to the group stay
abbrev pub SparesDisks : MountedGroup → Image → Image → Type 0
SparesDisks m old new = (slot : ℕ) → IsOwn m slot → SameDisk slot old new

-- Where each image of each moment of a call is held for groups of the mounted one's id, the disks of every other id's members stay.
abbrev pub KeptSparesOthers : BayState → BayState → Type 0
KeptSparesOthers s t =
    (n : ℕ) (m new : MountedGroup) (groups : List Group) (g : Group) (kept : Kept) → Mounts n m s g kept → KeepsGroup m new s t → LeavesOnly s t (StandsIn n m.register.id groups kept)
    → Runs (IsOwn m) (SparesOtherIds m.register.id) s t
