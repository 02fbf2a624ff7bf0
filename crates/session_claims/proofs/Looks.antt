-- A command that wrote nothing.
use Rattle.std.proofs.Common.{◌≡◌, ◌⊎◌, inl, inr, ⊎_elim, ℕ, ◌<◌, ◌≤◌, Bool, true, List, [], ◌∷◌, Some, sym, subst, arith}
use Rattle.bay.specs.Image.{Image, Same}
use Rattle.bay.specs.State.{BayState, IsSound}
use Rattle.bay.specs.Moments.{Runs}
use Rattle.asm_group.specs.Group.{Group}
use Rattle.asm_images.proofs.Held.{same_is_held}
use Rattle.asm_world.specs.Between.{groups_between}
use Rattle.asm_world.specs.Command.{Command}
use Rattle.asm_world.specs.World.{SessionEntry, World, groups_of, is_mounted}
use Rattle.mounted_groups.specs.Creating.{HasMember}
use Rattle.mounted_groups.specs.group_recovery.Mounting.{Allows}
use Rattle.mounted_groups.specs.group_engine.Frames.{StaysAttached}
use Rattle.mounted_groups.specs.group_engine.Mounts.{MountedGroup}
use Rattle.mounted_groups.proofs.group_engine.Elsewhere.{mounts_elsewhere}
use Rattle.session_claims.specs.Claims.{HoldsMembers, IsMountedAs, IsPaired, IsStanding, KeepsWorlds, StandsFor}
use Rattle.session_claims.specs.Laws.{AreSome, LooksKeep}
use Rattle.session_claims.proofs.Images.{all_stand, among-front, more_allows, same_allows, same_member}
use Rattle.session_claims.proofs.Members.{same_keeps, still_held}
use Rattle.session_claims.proofs.Pairs.{mounted_pair}

module _ (old new : BayState) (sound : IsSound old) (n : ℕ) (known : ℕ → Bool) (given : ℕ) (slots : ℕ → Type 0) (w : World) (groups : List MountedGroup) (runs : Runs slots Same old new) (attached : StaysAttached old new)
    (stands : StandsFor n known given old w groups) where
  -- what an image comes from
  before : (m : ℕ) (image : Image) → old.calls ≤ m → m ≤ new.calls → new.leaves m image → (x : Image) × old.leaves old.calls x × Same x image
  before m image from to left = runs.moments m image from to left

  now : (image : Image) → new.leaves new.calls image → (x : Image) × old.leaves old.calls x × Same x image
  now image left = before new.calls image runs.later (omega arith) left

  pub members_now : (held image : Image) → new.holds ≡ Some held → new.leaves new.calls image → HoldsMembers held image
  members_now held image holds left id =
      let h = runs.held held holds in
      let x = now image left in
      still_held id h.0 x.0 held image (same_keeps id h.0 held h.2) (same_keeps id x.0 image x.2) (stands.members h.0 x.0 h.1 x.1 id)

  pub mounted_now : (e : SessionEntry) (m : MountedGroup) → IsPaired w.session groups e m → is_mounted e ≡ true → IsMountedAs n e.id m (groups_of w e.id) new
  mounted_now e m pair is =
      let k = stands.mounted e m pair is in
      record {
        same = k.same;
        group = k.group;
        only = k.only;
        kept = k.kept;
        mounts = mounts_elsewhere n m old new k.group k.kept sound k.mounts attached runs (λ x y same slot. inl (record { size = same.size slot; byte = same.byte slot }));
        turns = k.turns;
        still = k.still;
      }

  pub allows_now : (image : Image) (id : ℕ) → new.leaves new.calls image → Allows id (groups_of w id) image
  allows_now image id left = let x = now image left in same_allows id (groups_of w id) x.0 image x.2 (stands.allows x.0 id x.1)

  pub origin_now : (given' : ℕ) → given ≤ given' → (image : Image) (id : ℕ) → new.leaves new.calls image → HasMember id image → (id < given') ⊎ (known id ≡ true)
  origin_now given' more image id left has =
      let x = now image left in
      ⊎_elim (λ (below : id < given). inl (omega (arith, below, more))) (λ at. inr at) (stands.origin x.0 id x.1 (same_member id x.0 image x.2 has))

  keeps : (given' : ℕ) → given ≤ given' → (w' : World) (groups' : List MountedGroup) → AreSome w w' groups groups' → (command : Command) → KeepsWorlds n known command given' old new w w' groups'
  keeps given' more w' groups' some command = record {
    held = λ m image id from to left.
        let x = before m image from (omega arith) left in
        more_allows id (groups_of w id) (groups_between w command w' id) image (λ g is. among-front (groups_of w id) _ g is) (same_allows id (groups_of w id) x.0 image x.2 (stands.allows x.0 id x.1));
    there = λ m image id from to left was is.
        let x = before m image from (omega arith) left in
        let p = mounted_pair w.session groups id stands.entries was in
        let k = stands.mounted p.0 p.1 p.2 p.3 in
        subst (λ (i : ℕ). IsStanding n i image) p.4
        (all_stand n p.0.id p.1 (groups_of w p.0.id) old k image (same_is_held n p.1.register.id (k.group ∷ []) k.kept x.0 image x.2 (k.mounts.now.now x.0 x.1)));
    now = record {
      tells = runs.tells stands.tells;
      entries = some.entries;
      ids = some.ids;
      allows = λ image id left. subst (λ (l : List Group). Allows id l image) (sym (some.lists id)) (allows_now image id left);
      mounted = λ e m pair is. subst (λ (l : List Group). IsMountedAs n e.id m l new) (sym (some.lists e.id)) (mounted_now e m (some.pairs e m pair is) is);
      members = members_now;
      origin = origin_now given' more;
    };
  }

pub looks_keep : (slots : ℕ → Type 0) (s t : BayState) → IsSound s → LooksKeep slots s t
looks_keep slots s t sound n known given given' w w' groups groups' command more runs attached some stands = keeps s t sound n known given slots w groups runs attached stands given' more w' groups' some command
