-- What each call of a mounted group keeps, on every bay.
use Rattle.std.specs.Prelude.{◌≡◌, ◌⊎◌, None}
use Rattle.bay.specs.Image.{Image, ChangesOnly}
use Rattle.bay.specs.State.{BayState, KeepsAttached}
use Rattle.bay.specs.Moments.{Runs}
use Rattle.group_engine.specs.Mounts.{IsMounted, IsOwn, IsReady, IsWhole, MountedGroup}

-- all disks but the attached ones stay
abbrev pub OnOwnDisks : MountedGroup → Image → Image → Type 0
OnOwnDisks m = ChangesOnly (λ slot k. IsOwn m slot)

-- The group stays the one of its name, id and shape, with the same disks attached.
pub record IsSameGroup (old new : MountedGroup) : Type 0 where
  pub name : new.name ≡ old.name
  pub id : new.register.id ≡ old.register.id
  pub shape : new.catalog.shape ≡ old.catalog.shape
  pub members : new.register.members ≡ old.register.members
  pub disks : new.disks ≡ old.disks
  -- the move that is on its way goes on, or was given up
  pub flight : (new.flight ≡ old.flight) ⊎ (new.flight ≡ None)

-- What a call keeps: the group is the same, only disks that are attached to it change, and while it is mounted its parts agree and it
-- takes the next call.
pub record KeepsGroup (old new : MountedGroup) (s t : BayState) : Type 0 where
  pub same : IsSameGroup old new
  pub attached : KeepsAttached s t
  pub runs : Runs (IsOwn old) (OnOwnDisks old) s t
  pub whole : IsMounted new → IsWhole new
  pub ready : IsMounted new → IsReady new t
