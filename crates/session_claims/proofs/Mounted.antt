-- A group is mounted beside others.
use Rattle.std.proofs.Common.{◌≡◌, ◌≢◌, ⊎_elim, ℕ, ◌<◌, ◌≤◌, Bool, true, false, List, [], ◌∷◌, refl, sym, ◌∙◌, ap, subst, arith}
use Rattle.std.proofs.lemmas.Bool.{cases_eq, true≢false}
use Rattle.bay.specs.Image.{Image}
use Rattle.bay.specs.State.{BayState, IsSound}
use Rattle.asm_group.specs.Group.{Group}
use Rattle.asm_world.specs.Between.{groups_between}
use Rattle.asm_world.specs.Command.{Command}
use Rattle.asm_world.specs.World.{SessionEntry, World, groups_of, has_mounted, is_mounted}
use Rattle.mounted_groups.specs.group_engine.Mounts.{MountedGroup}
use Rattle.mounted_groups.specs.group_recovery.Mounting.{Allows}
use Rattle.session_claims.specs.Claims.{IsMountedAs, IsPaired, KeepsWorlds, StandsFor}
use Rattle.session_claims.specs.Laws.{MountKeeps, RefusedMountKeeps, WorksUnder}
use Rattle.session_claims.proofs.Carried.{others_stay, replaced}
use Rattle.session_claims.proofs.Images.{among-front, held_allows, more_allows}
use Rattle.session_claims.proofs.Others.{members_now, origin_now, other_allows, other_mounted, other_stands}
use Rattle.session_claims.proofs.Pairs.{pair_mounted}
use Rattle.session_claims.proofs.Turns.{few_turns}

module _ (s t : BayState) (sound : IsSound s) (n : ℕ) (known : ℕ → Bool) (given : ℕ) (w : World) (groups : List MountedGroup) (id : ℕ) (stands : StandsFor n known given s w groups) (out : has_mounted w id ≡ false)
    (works : WorksUnder n id (groups_of w id) s t) where
  abbrev on : ℕ → Type 0
  on slot = slot < n

  -- the id wasn't mounted
  is_other : (i : ℕ) → has_mounted w i ≡ true → i ≢ id
  is_other i was same = true≢false (sym was ∙ ap (λ (j : ℕ). has_mounted w j) same ∙ out)

  all_allow : (i m : ℕ) (image : Image) → s.calls ≤ m → m ≤ t.calls → t.leaves m image → Allows i (groups_of w i) image
  all_allow i m image from until left = ⊎_elim
      (λ (here : i ≡ id). subst (λ (j : ℕ). Allows j (groups_of w j) image) (sym here) (works.moments.each m image from until left))
      (λ other. other_allows s t sound n known given w groups stands id on works.members works.attached i m image other from until left)
      (cases_eq i id)

  still_mounted : (e : SessionEntry) (m : MountedGroup) → IsPaired w.session groups e m → is_mounted e ≡ true → IsMountedAs n e.id m (groups_of w e.id) t
  still_mounted e m pair is =
      other_mounted s t sound n known given w groups stands id on works.members works.attached e m (is_other e.id (pair_mounted w.session groups e m pair is)) pair is

  works_keep : (command : Command) (w' : World) (groups' : List MountedGroup) → StandsFor n known given t w' groups' → KeepsWorlds n known command given s t w w' groups'
  works_keep command w' groups' now = record {
    held = λ m image i from until left.
        more_allows i (groups_of w i) (groups_between w command w' i) image (λ g among. among-front (groups_of w i) _ g among) (all_allow i m image from (omega arith) left);
    there = λ m image i from until left was still. other_stands s t sound n known given w groups stands id on works.members works.attached i m image (is_other i was) was from (omega arith) left;
    now = now;
  }

pub mounts_keep : (s t : BayState) → IsSound s → MountKeeps s t
mounts_keep s t sound n known given w w' groups groups' id g m command stands mount replaces goes =
    let works = mount.works in
    let here_is : groups_of w' id ≡ g ∷ [] = replaced w id (g ∷ []) w' replaces in
    let mounted : IsMountedAs n id m (g ∷ []) t = record {
      same = mount.same;
      group = g;
      only = refl;
      kept = mount.is.kept;
      mounts = mount.is.mounts;
      turns = few_turns m mount.most mount.is.mounts.whole mount.is.turns mount.few;
      still = mount.is.still;
    } in
    works_keep s t sound n known given w groups id stands mount.out works command w' groups' (record {
      tells = works.members.tells stands.tells;
      entries = goes.entries;
      ids = goes.ids;
      allows = λ image i left. ⊎_elim
          (λ (here : i ≡ id).
          subst (λ (j : ℕ). Allows j (groups_of w' j) image) (sym here)
          (subst (λ (l : List Group). Allows id l image) (sym here_is)
          (subst (λ (j : ℕ). Allows j (g ∷ []) image) mount.same (held_allows n m.register.id (g ∷ []) mount.is.kept image (mount.is.mounts.now.now image left)))))
          (λ other.
          subst (λ (l : List Group). Allows i l image) (sym (others_stay w id (g ∷ []) w' replaces i other))
          (all_allow s t sound n known given w groups id stands mount.out works i t.calls image works.members.later (omega arith) left))
          (cases_eq i id);
      mounted = λ e x pair is. ⊎_elim
          (λ mine.
          subst (λ (j : ℕ). IsMountedAs n j x (groups_of w' j) t) (sym mine.0)
          (subst (λ (l : List Group). IsMountedAs n id x l t) (sym here_is) (subst (λ (y : MountedGroup). IsMountedAs n id y (g ∷ []) t) (sym mine.1) mounted)))
          (λ other.
          subst (λ (l : List Group). IsMountedAs n e.id x l t) (sym (others_stay w id (g ∷ []) w' replaces e.id other.0))
          (still_mounted s t sound n known given w groups id stands mount.out works e x other.1 is))
          (goes.pairs e x pair is);
      members = members_now s t sound n known given w groups stands id (λ (slot : ℕ). slot < n) works.members works.attached;
      origin = origin_now s t sound n known given w groups stands id (λ (slot : ℕ). slot < n) works.members works.attached;
    })

pub refused_mounts_keep : (s t : BayState) → IsSound s → RefusedMountKeeps s t
refused_mounts_keep s t sound n known given w w' groups groups' id command stands out works some =
    works_keep s t sound n known given w groups id stands out works command w' groups' (record {
      tells = works.members.tells stands.tells;
      entries = some.entries;
      ids = some.ids;
      allows = λ image i left.
          subst (λ (l : List Group). Allows i l image) (sym (some.lists i))
          (all_allow s t sound n known given w groups id stands out works i t.calls image works.members.later (omega arith) left);
      mounted = λ e x pair is.
          subst (λ (l : List Group). IsMountedAs n e.id x l t) (sym (some.lists e.id))
          (still_mounted s t sound n known given w groups id stands out works e x (some.pairs e x pair is) is);
      members = members_now s t sound n known given w groups stands id (λ (slot : ℕ). slot < n) works.members works.attached;
      origin = origin_now s t sound n known given w groups stands id (λ (slot : ℕ). slot < n) works.members works.attached;
    })
