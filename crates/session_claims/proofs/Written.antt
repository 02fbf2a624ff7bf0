-- A write of users' bytes of one mounted group.
use Rattle.std.proofs.Common.{◌≡◌, ⊎_elim, ℕ, Bool, List, [], ◌∷◌, refl, sym, ◌∙◌, subst}
use Rattle.bay.specs.Image.{Image}
use Rattle.bay.specs.State.{BayState, IsSound}
use Rattle.asm_group.specs.Group.{Group}
use Rattle.asm_formats.specs.Among.{IsAmong}
use Rattle.asm_world.specs.Between.{groups_between}
use Rattle.asm_world.specs.Command.{Command}
use Rattle.asm_world.specs.World.{SessionEntry, World, groups_of}
use Rattle.mounted_groups.specs.group_recovery.Mounting.{Allows}
use Rattle.mounted_groups.proofs.BroughtMounts.{still_later}
use Rattle.mounted_groups.specs.group_engine.Mounts.{IsMounted, MountedGroup, Mounts}
use Rattle.session_claims.specs.Claims.{IsMountedAs, KeepsWorlds, StandsFor}
use Rattle.session_claims.specs.Laws.{HoldsWrite, IsWrittenIn, MountsGoOn, ReplacesGroups, WriteKeeps, WriteTears, WritesGroup}
use Rattle.session_claims.proofs.Carried.{allows_then, work_keeps}
use Rattle.session_claims.proofs.Images.{held_allows}

module _ (s t : BayState) (sound : IsSound s) (later : IsSound t) (n : ℕ) (known : ℕ → Bool) (given : ℕ) (w w' : World) (groups groups' : List MountedGroup) (e : SessionEntry) (old new : MountedGroup) (g free h : Group)
    (command : Command) (stands : StandsFor n known given s w groups) (on : IsWrittenIn w w' groups command e old g free) (work : WritesGroup n old new g free h s t) where
  abbrev k : IsMountedAs n e.id old (groups_of w e.id) s
  k = stands.mounted e old on.pair on.is

  first_is : (a b : Group) → (a ∷ []) ≡ (b ∷ []) → a ≡ b
  first_is a b same = cc

  -- the group that is mounted is the one that is written
  is_mounted_on : Mounts n old s g k.kept
  is_mounted_on = subst (λ (x : Group). Mounts n old s x k.kept) (first_is k.group g (sym k.only ∙ on.alone)) k.mounts

  pub holds : HoldsWrite n old new free h k.kept s t
  holds = work.holds k.kept is_mounted_on k.still k.turns

  between : (x : Group) → IsAmong (free ∷ []) x → IsAmong (groups_between w command w' e.id) x
  between x among = ⊎_elim (λ (same : x ≡ free). subst (λ (y : Group). IsAmong (groups_between w command w' e.id) y) (sym same) on.between) (λ none. absurd none) among

  write_keeps : (list : List Group) → ReplacesGroups w e.id list w' → (IsNew : MountedGroup → Type 0) → MountsGoOn e.id IsNew w w' groups groups'
      → ((image : Image) → t.leaves t.calls image → Allows old.register.id list image) → ((m : MountedGroup) → IsNew m → IsMountedAs n e.id m list t) → KeepsWorlds n known command given s t w w' groups'
  write_keeps list replaces IsNew goes own_now own_mounted =
      work_keeps s t sound later n known given w w' groups groups' e old new stands on.pair on.is work.keeps (free ∷ []) holds.moments command between list replaces IsNew goes own_now own_mounted

  -- the group takes calls
  pub done_keeps : IsMounted new → ReplacesGroups w e.id (h ∷ []) w' → MountsGoOn e.id (λ m. m ≡ new) w w' groups groups' → KeepsWorlds n known command given s t w w' groups'
  done_keeps mounted replaces goes =
      let end = holds.after mounted in
      write_keeps (h ∷ []) replaces (λ m. m ≡ new) goes
      (λ image left. subst (λ (i : ℕ). Allows i (h ∷ []) image) work.keeps.same.id (held_allows n new.register.id (h ∷ []) end.0 image (end.2.now.now image left)))
      (λ m same. subst (λ (x : MountedGroup). IsMountedAs n e.id x (h ∷ []) t) (sym same) (record {
        same = work.keeps.same.id ∙ k.same;
        group = h;
        only = refl;
        kept = end.0;
        mounts = end.2;
        turns = holds.turns mounted;
        still = still_later old new work.keeps.same k.still;
      }))

  -- it was dismounted
  pub torn_keeps : ReplacesGroups w e.id (free ∷ []) w' → MountsGoOn e.id (λ m. ⊥) w w' groups groups' → KeepsWorlds n known command given s t w w' groups'
  torn_keeps replaces goes = write_keeps (free ∷ []) replaces (λ m. ⊥) goes
      (λ image left. allows_then s t sound later n known given w w' groups groups' e old new stands on.pair on.is work.keeps (free ∷ []) holds.moments image left)
      (λ m none. absurd none)

module _ (s t : BayState) (sound : IsSound s) (later : IsSound t) where
  pub writes_keep : WriteKeeps s t
  writes_keep n known given w w' groups groups' e old new g free h command stands on work mounted replaces goes =
      done_keeps s t sound later n known given w w' groups groups' e old new g free h command stands on work mounted replaces goes

  pub write_tears : WriteTears s t
  write_tears n known given w w' groups groups' e old new g free h command stands on work replaces goes =
      torn_keeps s t sound later n known given w w' groups groups' e old new g free h command stands on work replaces goes
