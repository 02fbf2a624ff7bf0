-- A group is created beside others.
use Rattle.std.proofs.Common.{◌≡◌, ◌≢◌, inl, inr, ⊎_elim, ℕ, ◌+◌, ◌<◌, ◌≤◌, Bool, true, List, [], ◌∷◌, Some, refl, sym, ◌∙◌, ◌↔◌, ap, subst, arith}
use Rattle.std.proofs.lemmas.Bool.{cases_eq}
use Rattle.std.proofs.lemmas.Option.{none-some}
use Rattle.bay.specs.Image.{Image}
use Rattle.bay.specs.State.{BayState, IsSound}
use Rattle.bay.specs.Moments.{Runs}
use Rattle.asm_group.specs.Group.{Group}
use Rattle.asm_images.specs.Kept.{IsMemberIn}
use Rattle.asm_world.specs.Between.{groups_between}
use Rattle.asm_world.specs.Command.{Command}
use Rattle.asm_world.specs.World.{SessionEntry, World, groups_of, has_mounted, is_mounted}
use Rattle.mounted_groups.specs.Creating.{HasCreated, HasMember, HasNoOpenHeader, MayCreate}
use Rattle.mounted_groups.specs.group_recovery.Mounting.{Allows}
use Rattle.mounted_groups.specs.FirstParts.{MountsNew}
use Rattle.mounted_groups.proofs.Outsiders.{others_allow}
use Rattle.mounted_groups.specs.group_engine.Frames.{SparesGroup, StaysAttached}
use Rattle.mounted_groups.specs.group_engine.Mounts.{MountedGroup}
use Rattle.mounted_groups.proofs.group_engine.Elsewhere.{mounts_elsewhere, spared_is_held}
use Rattle.session_claims.specs.Claims.{HoldsMembers, IsMountedAs, IsPaired, IsStanding, KeepsWorlds, StandsFor}
use Rattle.session_claims.specs.Laws.{CreationKeeps, MountsGoOn, IsFreshId, ReplacesGroups}
use Rattle.session_claims.proofs.Carried.{others_stay, replaced}
use Rattle.session_claims.proofs.Images.{all_stand, among-behind, among-front, has_slot, held_has, more_allows, slot_has}
use Rattle.session_claims.proofs.Members.{HoldsMembersOf, disk_keeps, same_keeps}
use Rattle.session_claims.proofs.Pairs.{mounted_pair, pair_mounted}
use Rattle.session_claims.proofs.Turns.{few_turns}

-- calls, with what is known of the images from which they lead
with_left : {slots : ℕ → Type 0} {step : Image → Image → Type 0} {a b : BayState} → IsSound a → Runs slots step a b → Runs slots (λ x y. a.leaves a.calls x × step x y) a b
with_left sound run = record {
  later = run.later;
  faults = run.faults;
  other_faults = run.other_faults;
  other_written = run.other_written;
  tells = run.tells;
  held = λ image holds. let from = run.held image holds in (from.0, from.1, (sound.held from.0 from.1, from.2));
  ended = run.ended;
  moments = λ m image low high left. let from = run.moments m image low high left in (from.0, from.1, (from.1, from.2));
}

module _ (old new : BayState) (sound : IsSound old) (n : ℕ) (known : ℕ → Bool) (given given' made : ℕ) (g : Group) (ok : Bool) (w w' : World) (groups groups' : List MountedGroup) (stands : StandsFor n known given old w groups)
    (fresh : IsFreshId known given made) (more : made + 1 ≤ given') (creation : HasCreated n made g ok old new) (attached : StaysAttached old new) (replaces : ReplacesGroups w made (g ∷ []) w')
    (is_new : has_mounted w made ≡ true → ⊥) (goes : MountsGoOn made (λ m. (m.register.id ≡ made) × MountsNew n g m old new) w w' groups groups') where
  abbrev Step : Image → Image → Type 0
  Step x y = MayCreate old.holds creation.slot made g x y

  -- no disk is a member of the new id before
  none_before : (x : Image) → old.leaves old.calls x → HasMember made x → ⊥
  none_before x left has = ⊎_elim (λ (below : made < given). omega (arith, below, fresh.above)) fresh.unknown (stands.origin x made left has)

  before : (m : ℕ) (image : Image) → old.calls ≤ m → m ≤ new.calls → new.leaves m image → (x : Image) × old.leaves old.calls x × Step x image
  before m image from to left = creation.moments.moments m image from to left

  made_has : groups_of w' made ≡ g ∷ []
  made_has = replaced w made (g ∷ []) w' replaces

  others_have : (id : ℕ) → id ≢ made → groups_of w' id ≡ groups_of w id
  others_have id other = others_stay w made (g ∷ []) w' replaces id other

  now_allows : (x y : Image) → old.leaves old.calls x → Step x y → (id : ℕ) → Allows id (groups_of w' id) y
  now_allows x y left step id = ⊎_elim
      (λ (here : id ≡ made). subst (λ (l : List Group). Allows id l y) (sym (ap (λ (i : ℕ). groups_of w' i) here ∙ made_has)) (subst (λ (i : ℕ). Allows i (g ∷ []) y) (sym here) (step.creates.own (none_before x left))))
      (λ other. subst (λ (l : List Group). Allows id l y) (sym (others_have id other)) (others_allow creation.slot made g x y step.creates id (groups_of w id) other (stands.allows x id left)))
      (cases_eq id made)

  -- ---- a group that is mounted: the new one's disk was no member of it

  module _ (e : SessionEntry) (m : MountedGroup) (pair : IsPaired w.session groups e m) (is : is_mounted e ≡ true) where
    k : IsMountedAs n e.id m (groups_of w e.id) old
    k = stands.mounted e m pair is

    apart : e.id ≢ made
    apart same = is_new (subst (λ (i : ℕ). has_mounted w i ≡ true) same (pair_mounted w.session groups e m pair is))

    has_own : (x : Image) → old.leaves old.calls x → HasMember e.id x
    has_own x left = subst (λ (i : ℕ). HasMember i x) k.same (held_has n m.register.id (k.group ∷ []) k.kept x (k.mounts.now.now x left))

    -- the disks hold a member of it, and none on the new group's disk
    no_member : (x : Image) → old.leaves old.calls x → HasNoOpenHeader old.holds creation.slot → IsMemberIn e.id x creation.slot → ⊥
    no_member x left free has =
        let now = sound.told x left in
        let there = stands.members now.0 x now.1 left e.id creation.slot (has_own now.0 (sound.held now.0 now.1)) has in
        none-some there.0 (sym (free now.0 now.1) ∙ there.1)

    spares : (x y : Image) → old.leaves old.calls x → Step x y → SparesGroup e.id x y
    spares x y left step slot = ⊎_elim
        (λ same. inl (record { size = same.size slot; byte = same.byte slot }))
        (λ free. ⊎_elim
        (λ (here : slot ≡ creation.slot).
        let never : IsMemberIn e.id x slot → ⊥ = λ has. no_member x left free (subst (λ (s : ℕ). IsMemberIn e.id x s) here has) in
        inr (
          λ h at named. never (h, at, named),
          λ h at named. no_member x left free (step.creates.joins e.id apart (subst (λ (s : ℕ). IsMemberIn e.id y s) here (h, at, named))),
        ))
        (λ differ. inl (record { size = step.creates.elsewhere.size slot differ; byte = λ b. step.creates.elsewhere.byte slot b differ }))
        (cases_eq slot creation.slot))
        step.free

    own_spares : (x y : Image) → (old.leaves old.calls x × Step x y) → SparesGroup m.register.id x y
    own_spares x y at = subst (λ (i : ℕ). SparesGroup i x y) (sym k.same) (spares x y at.0 at.1)

    mounted_now : IsMountedAs n e.id m (groups_of w e.id) new
    mounted_now = record {
      same = k.same;
      group = k.group;
      only = k.only;
      kept = k.kept;
      mounts = mounts_elsewhere n m old new k.group k.kept sound k.mounts attached (with_left sound creation.moments) own_spares;
      turns = k.turns;
      still = k.still;
    }

    stands_still : (mo : ℕ) (image : Image) → old.calls ≤ mo → mo ≤ new.calls → new.leaves mo image → IsStanding n e.id image
    stands_still mo image from to left =
        let x = before mo image from to left in
        all_stand n e.id m (groups_of w e.id) old k image (spared_is_held n m.register.id (k.group ∷ []) k.kept x.0 image (own_spares x.0 image (x.1, x.2)) (k.mounts.now.now x.0 x.1))

  -- ---- members

  -- of another id no disk becomes one
  others_held : (id : ℕ) → id ≢ made → (h x held image : Image) → old.holds ≡ Some h → old.leaves old.calls x → Step h held → Step x image → HoldsMembersOf id held image
  others_held id other h x held image holds left to_held to_image slot has is = ⊎_elim
      (λ (here : slot ≡ creation.slot). subst (λ (s : ℕ). IsMemberIn id held s) (sym here) (at_its_disk (to_image.creates.joins id other (subst (λ (s : ℕ). IsMemberIn id image s) here is))))
      (λ differ. (at_others h held to_held slot differ).0 (was slot ((at_others x image to_image slot differ).1 is)))
      (cases_eq slot creation.slot)
    where
      at_others : (a b : Image) → Step a b → (s : ℕ) → s ≢ creation.slot → IsMemberIn id a s ↔ IsMemberIn id b s
      at_others a b step s differ = disk_keeps id s a b (record { size = step.creates.elsewhere.size s differ; byte = λ k. step.creates.elsewhere.byte s k differ })

      was : (s : ℕ) → IsMemberIn id x s → IsMemberIn id h s
      was s = stands.members h x holds left id s (to_held.creates.members id other has)

      at_its_disk : IsMemberIn id x creation.slot → IsMemberIn id held creation.slot
      at_its_disk member = ⊎_elim
          (λ same. (same_keeps id h held same creation.slot).0 (was creation.slot member))
          (λ free. absurd (let there = was creation.slot member in none-some there.0 (sym (free h holds) ∙ there.1)))
          to_held.free

  -- of the new one its disk alone
  new_slot : (x image : Image) (slot : ℕ) → old.leaves old.calls x → Step x image → IsMemberIn made image slot → slot ≡ creation.slot
  new_slot x image slot left step is = ⊎_elim
      (λ here. here)
      (λ differ.
      let stays = disk_keeps made slot x image (record { size = step.creates.elsewhere.size slot differ; byte = λ k. step.creates.elsewhere.byte slot k differ }) in
      absurd (none_before x left (slot_has made x slot (stays.1 is))))
      (cases_eq slot creation.slot)

  members_now : (held image : Image) → new.holds ≡ Some held → new.leaves new.calls image → HoldsMembers held image
  members_now held image holds left id =
      let h = creation.moments.held held holds in
      let x = before new.calls image creation.moments.later (omega arith) left in
      ⊎_elim
      (λ (here : id ≡ made). subst (λ (i : ℕ). HoldsMembersOf i held image) (sym here)
      (λ slot has is.
      let at = has_slot made held has in
      let same : at.0 ≡ slot = new_slot h.0 held at.0 (sound.held h.0 h.1) h.2 at.1 ∙ sym (new_slot x.0 image slot x.1 x.2 is) in
      subst (λ (s : ℕ). IsMemberIn made held s) same at.1))
      (λ other. others_held id other h.0 x.0 held image h.1 x.1 h.2 x.2)
      (cases_eq id made)

  -- the new group
  new_mounted : (m : MountedGroup) → m.register.id ≡ made → MountsNew n g m old new → IsMountedAs n made m (g ∷ []) new
  new_mounted m same mounts =
      let is = mounts.alone (record { now = λ image left has. none_before image left (subst (λ (i : ℕ). HasMember i image) same has) }) in
      record {
        same = same;
        group = g;
        only = refl;
        kept = is.kept;
        mounts = is.mounts;
        turns = few_turns m 2 is.mounts.whole (omega (arith, mounts.turns)) (omega arith);
        still = mounts.still;
      }

  keeps : (command : Command) → KeepsWorlds n known command given' old new w w' groups'
  keeps command = record {
    held = λ m image id from to left.
        let x = before m image from (omega arith) left in
        more_allows id (groups_of w' id) (groups_between w command w' id) image (λ h is. among-behind (groups_of w id) _ h (among-front (groups_of w' id) _ h is)) (now_allows x.0 image x.1 x.2 id);
    there = λ m image id from to left was is.
        let p = mounted_pair w.session groups id stands.entries was in
        subst (λ (i : ℕ). IsStanding n i image) p.4 (stands_still p.0 p.1 p.2 p.3 m image from (omega arith) left);
    now = record {
      tells = creation.moments.tells stands.tells;
      entries = goes.entries;
      ids = goes.ids;
      allows = λ image id left. let x = before new.calls image creation.moments.later (omega arith) left in now_allows x.0 image x.1 x.2 id;
      mounted = λ e m pair is. ⊎_elim
          (λ mine.
          subst (λ (l : List Group). IsMountedAs n e.id m l new) (sym (ap (λ (i : ℕ). groups_of w' i) mine.0 ∙ made_has))
          (subst (λ (i : ℕ). IsMountedAs n i m (g ∷ []) new) (sym mine.0) (new_mounted m mine.1.0 mine.1.1)))
          (λ other. subst (λ (l : List Group). IsMountedAs n e.id m l new) (sym (others_have e.id other.0)) (mounted_now e m other.1 is))
          (goes.pairs e m pair is);
      members = members_now;
      origin = λ image id left has.
          let x = before new.calls image creation.moments.later (omega arith) left in
          ⊎_elim (λ (here : id ≡ made). inl (omega (arith, here, more)))
          (λ other. ⊎_elim (λ (below : id < given). inl (omega (arith, below, fresh.above, more))) (λ at. inr at) (stands.origin x.0 id x.1 (x.2.creates.members id other has)))
          (cases_eq id made);
    };
  }

pub creations_keep : (s t : BayState) → IsSound s → CreationKeeps s t
creations_keep s t sound n known given given' made g ok w w' groups groups' command stands fresh more creation attached replaces is_new goes =
    keeps s t sound n known given given' made g ok w w' groups groups' stands fresh more creation attached replaces is_new goes command
