-- What calls keep that may attach disks to a mounted group.
use Rattle.std.specs.Prelude.{◌≡◌, ⊤, ℕ, List}
use Rattle.bay.specs.Moments.{Runs}
use Rattle.bay.specs.State.{BayState}
use Rattle.new_groups.specs.mounted_groups.Holding.{IsHeldSlot, SameHeld}
use Rattle.file_extents.specs.group_engine.Frames.{StaysAttached}
use Rattle.file_extents.specs.group_engine.Mounts.{IsMounted, IsOwn, IsReady, IsWhole, MountedGroup}

-- no attached disk of the group is in one of these slots
abbrev pub IsApart : List ℕ → MountedGroup → Type 0
IsApart held m = (slot : ℕ) → IsOwn m slot → IsHeldSlot held slot → ⊥

-- What a call keeps that may attach disks to a group, of which none is in these slots: the group is the same, what was attached stays
-- so, the disks in these slots stay, and while the group is mounted its parts agree and it takes the next call.
pub record TakesIn (held : List ℕ) (old new : MountedGroup) (s t : BayState) : Type 0 where
  pub name : new.name ≡ old.name
  pub id : new.register.id ≡ old.register.id
  pub shape : new.catalog.shape ≡ old.catalog.shape
  pub own : IsApart held new
  pub attached : StaysAttached s t
  pub spares : Runs (λ slot. ⊤) (SameHeld held) s t
  pub whole : IsMounted new → IsWhole new
  pub ready : IsMounted new → IsReady new t
