-- Work on one mounted group: at each moment each image is held for groups of a list, and in the end the world has such a list under its id.
use Rattle.std.proofs.Common.{◌≡◌, ◌≢◌, ⊎_elim, ℕ, ◌≤◌, Bool, true, List, ap, refl, sym, ◌∙◌, subst, arith, if◌then◌else◌}
use Rattle.std.proofs.lemmas.Bool.{cases_eq, eq-eqb, ne_eqb}
use Rattle.bay.specs.Image.{Image}
use Rattle.bay.specs.State.{BayState, IsSound}
use Rattle.bay.specs.Moments.{LeavesOnly, Runs}
use Rattle.asm_group.specs.Group.{Group}
use Rattle.asm_formats.specs.Among.{IsAmong}
use Rattle.asm_world.specs.Between.{groups_between}
use Rattle.asm_world.specs.Command.{Command}
use Rattle.asm_world.specs.World.{SessionEntry, World, groups_of, is_mounted}
use Rattle.mounted_groups.specs.group_recovery.Mounting.{Allows}
use Rattle.mounted_groups.specs.group_recovery.Recovered.{ChangesMembers}
use Rattle.mounted_groups.specs.group_engine.Commits.{StandsIn}
use Rattle.mounted_groups.specs.group_engine.Frames.{StaysAttached}
use Rattle.mounted_groups.specs.group_engine.Mounts.{IsOwn, MountedGroup}
use Rattle.mounted_groups.specs.group_engine.Own.{KeepsGroup}
use Rattle.mounted_groups.proofs.group_engine.Elsewhere.{stays_attached}
use Rattle.session_claims.specs.Claims.{IsMountedAs, IsPaired, IsStanding, KeepsWorlds, StandsFor}
use Rattle.session_claims.specs.Laws.{MountsGoOn, ReplacesGroups}
use Rattle.session_claims.proofs.Images.{among-front, held_allows, more_allows}
use Rattle.session_claims.proofs.Members.{kept_change}
use Rattle.session_claims.proofs.Others.{members_now, origin_now, other_allows, other_mounted, other_stands}

-- ---- lists of groups

pub replaced : (w : World) (id : ℕ) (groups : List Group) (w' : World) → ReplacesGroups w id groups w' → groups_of w' id ≡ groups
replaced w id groups w' is = is id ∙ ap (λ (b : Bool). if b then groups else groups_of w id) (eq-eqb id id refl)

pub others_stay : (w : World) (id : ℕ) (groups : List Group) (w' : World) → ReplacesGroups w id groups w' → (i : ℕ) → i ≢ id → groups_of w' i ≡ groups_of w i
others_stay w id groups w' is i differ = is i ∙ ap (λ (b : Bool). if b then groups else groups_of w i) (ne_eqb i id differ)

module _ (s t : BayState) (sound : IsSound s) (later : IsSound t) (n : ℕ) (known : ℕ → Bool) (given : ℕ) (w w' : World) (groups groups' : List MountedGroup) (e : SessionEntry) (old new : MountedGroup)
    (stands : StandsFor n known given s w groups) (pair : IsPaired w.session groups e old) (is : is_mounted e ≡ true) (keeps : KeepsGroup old new s t)
    (middle : List Group) (moments : LeavesOnly s t (StandsIn n old.register.id middle (stands.mounted e old pair is).kept)) where
  abbrev k : IsMountedAs n e.id old (groups_of w e.id) s
  k = stands.mounted e old pair is

  abbrev own : ℕ
  own = old.register.id

  changes : Runs (IsOwn old) (ChangesMembers own) s t
  changes = kept_change s t sound later n old new middle k.group k.kept k.mounts keeps moments

  attached : StaysAttached s t
  attached = stays_attached keeps.attached

  -- ---- at each moment

  own_allows : (m : ℕ) (image : Image) → s.calls ≤ m → m ≤ t.calls → t.leaves m image → Allows own middle image
  own_allows m image from until left = let at = moments.each m image from until left in held_allows n own middle at.by image at.is

  pub allows_then : (image : Image) → t.leaves t.calls image → Allows own middle image
  allows_then image left = own_allows t.calls image changes.later (omega arith) left

  own_stands : (m : ℕ) (image : Image) → s.calls ≤ m → m ≤ t.calls → t.leaves m image → IsStanding n own image
  own_stands m image from until left = (moments.each m image from until left).beside (λ any. true) (λ slot has. refl)

  -- what stands under other ids does so still
  others_allow : (i m : ℕ) (image : Image) → i ≢ own → s.calls ≤ m → m ≤ t.calls → t.leaves m image → Allows i (groups_of w i) image
  others_allow = other_allows s t sound n known given w groups stands own (IsOwn old) changes attached

  others_mounted : (f : SessionEntry) (m : MountedGroup) → f.id ≢ own → IsPaired w.session groups f m → is_mounted f ≡ true → IsMountedAs n f.id m (groups_of w f.id) t
  others_mounted = other_mounted s t sound n known given w groups stands own (IsOwn old) changes attached

  -- ---- all of it

  module _ (command : Command) (between : (x : Group) → IsAmong middle x → IsAmong (groups_between w command w' e.id) x) (list : List Group) (replaces : ReplacesGroups w e.id list w')
      (IsNew : MountedGroup → Type 0) (goes : MountsGoOn e.id IsNew w w' groups groups') (own_now : (image : Image) → t.leaves t.calls image → Allows own list image)
      (own_mounted : (m : MountedGroup) → IsNew m → IsMountedAs n e.id m list t) where
    own_list : groups_of w' own ≡ list
    own_list = ap (λ (i : ℕ). groups_of w' i) k.same ∙ replaced w e.id list w' replaces

    other_list : (i : ℕ) → i ≢ own → groups_of w' i ≡ groups_of w i
    other_list i differ = others_stay w e.id list w' replaces i (λ same. differ (same ∙ sym k.same))

    own_between : (id : ℕ) (image : Image) → id ≡ own → Allows own middle image → Allows id (groups_between w command w' id) image
    own_between id image here allows =
        subst (λ (i : ℕ). Allows i (groups_between w command w' i) image) (sym here)
        (more_allows own middle (groups_between w command w' own) image (λ x among. subst (λ (i : ℕ). IsAmong (groups_between w command w' i) x) (sym k.same) (between x among)) allows)

    pub work_keeps : KeepsWorlds n known command given s t w w' groups'
    work_keeps = record {
      held = λ m image id from until left. ⊎_elim
          (λ (here : id ≡ own). own_between id image here (own_allows m image from (omega arith) left))
          (λ differ.
          more_allows id (groups_of w id) (groups_between w command w' id) image (λ x among. among-front (groups_of w id) _ x among)
          (others_allow id m image differ from (omega arith) left))
          (cases_eq id own);
      there = λ m image id from until left was still. ⊎_elim
          (λ (here : id ≡ own). subst (λ (i : ℕ). IsStanding n i image) (sym here) (own_stands m image from (omega arith) left))
          (λ differ. other_stands s t sound n known given w groups stands own (IsOwn old) changes attached id m image differ was from (omega arith) left)
          (cases_eq id own);
      now = record {
        tells = changes.tells stands.tells;
        entries = goes.entries;
        ids = goes.ids;
        allows = λ image id left. ⊎_elim
            (λ (here : id ≡ own). subst (λ (l : List Group). Allows id l image) (sym (ap (λ (i : ℕ). groups_of w' i) here ∙ own_list)) (subst (λ (i : ℕ). Allows i list image) (sym here) (own_now image left)))
            (λ differ. subst (λ (l : List Group). Allows id l image) (sym (other_list id differ)) (others_allow id t.calls image differ changes.later (omega arith) left))
            (cases_eq id own);
        mounted = λ f m at yes. ⊎_elim
            (λ mine.
            let list_is : groups_of w' f.id ≡ list = ap (λ (i : ℕ). groups_of w' i) (mine.0 ∙ sym k.same) ∙ own_list in
            subst (λ (l : List Group). IsMountedAs n f.id m l t) (sym list_is) (subst (λ (i : ℕ). IsMountedAs n i m list t) (sym mine.0) (own_mounted m mine.1)))
            (λ other.
            let differ : f.id ≢ own = λ same. other.0 (same ∙ k.same) in
            subst (λ (l : List Group). IsMountedAs n f.id m l t) (sym (other_list f.id differ)) (others_mounted f m differ other.1 yes))
            (goes.pairs f m at yes);
        members = members_now s t sound n known given w groups stands own (IsOwn old) changes attached;
        origin = origin_now s t sound n known given w groups stands own (IsOwn old) changes attached;
      };
    }
