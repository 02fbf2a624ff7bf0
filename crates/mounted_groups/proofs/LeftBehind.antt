-- A mount behind its record: over all of it disks of its id's members alone change.
use Rattle.std.proofs.Common.{ℕ, ◌<◌, List, [], ◌∷◌, sym, subst}
use Rattle.bay.specs.Moments.{Runs}
use Rattle.bay.specs.State.{BayState, IsSound}
use Rattle.asm_group.specs.Group.{Group}
use Rattle.asm_group.specs.Names.{Bytes}
use Rattle.group_engine.specs.Mounts.{IsOwn, MountedGroup}
use Rattle.group_engine.specs.Own.{KeepsGroup}
use Rattle.group_recovery.specs.declared.quorum.MountOption.{MountOption}
use Rattle.mounted_groups.specs.Bringing.{StandWhile}
use Rattle.group_recovery.specs.Recovered.{ChangesMembers}
use Rattle.mounted_groups.specs.Leaving.{IsMountedOn, LeavesMounted, MountsOne}
use Rattle.mounted_groups.proofs.BroughtMounts.{on_through}
use Rattle.mounted_groups.proofs.OwnMembers.{changes_on, own_changes}

module _ {B : Type 0} (state : B → BayState) (name : Bytes) (n : ℕ) (held : List ℕ) (option : MountOption) (group new : MountedGroup) (s : BayState) (at : B) (t : BayState)
    (before : IsSound (state at)) (after : IsSound t) (one : MountsOne state name n held option group s (state at)) (inside : (slot : ℕ) → IsOwn group slot → slot < n)
    (since : KeepsGroup group new (state at) t) (stands : StandWhile 65 group (state at) t) where
  pub members_over : (g : Group) → IsMountedOn 65 n g group (state at) → Runs (λ slot. slot < n) (ChangesMembers group.register.id) s t
  members_over g is =
      changes_on n group.register.id inside (subst (λ (id : ℕ). Runs (λ slot. slot < n) (ChangesMembers id) s (state at)) (sym one.id) one.claims.members)
      (own_changes (state at) t before after n group new (g ∷ []) g is.kept is.mounts since (on_through group new n g (state at) t is stands))

  pub left_mounted : LeavesMounted state name n held option s t
  left_mounted = record {
    group = group;
    at = at;
    one = one;
    moments = λ g is. on_through group new n g (state at) t is stands;
    members = members_over;
  }
