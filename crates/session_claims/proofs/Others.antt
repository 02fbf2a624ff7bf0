-- Calls under one id leave what stands under others.
use Rattle.std.proofs.Common.{◌≡◌, ◌≢◌, ◌⊎◌, ℕ, ◌<◌, ◌≤◌, Bool, true, List, [], ◌∷◌, Some, sym, ◌∙◌, subst, arith}
use Rattle.bay.specs.Image.{Image}
use Rattle.bay.specs.Moments.{Runs}
use Rattle.bay.specs.State.{BayState, IsSound}
use Rattle.asm_world.specs.World.{SessionEntry, World, groups_of, has_mounted, is_mounted}
use Rattle.edit_laws.proofs.Spared.{spared_is_sound}
use Rattle.mounted_groups.specs.Creating.{HasMember}
use Rattle.mounted_groups.specs.group_engine.Frames.{StaysAttached}
use Rattle.mounted_groups.specs.group_engine.Mounts.{MountedGroup}
use Rattle.mounted_groups.proofs.group_engine.Elsewhere.{mounts_elsewhere, spared_is_held}
use Rattle.mounted_groups.specs.group_recovery.Mounting.{Allows}
use Rattle.mounted_groups.specs.group_recovery.Recovered.{ChangesMembers}
use Rattle.session_claims.specs.Claims.{HoldsMembers, IsMountedAs, IsPaired, IsStanding, StandsFor}
use Rattle.session_claims.proofs.Images.{all_stand}
use Rattle.session_claims.proofs.Members.{changed_keeps, changed_spares, still_held, was_member}
use Rattle.session_claims.proofs.Pairs.{mounted_pair}

module _ (s t : BayState) (sound : IsSound s) (n : ℕ) (known : ℕ → Bool) (given : ℕ) (w : World) (groups : List MountedGroup) (stands : StandsFor n known given s w groups) (own : ℕ) (on : ℕ → Type 0)
    (runs : Runs on (ChangesMembers own) s t) (attached : StaysAttached s t) where
  -- what an image of a moment comes from
  before : (m : ℕ) (image : Image) → s.calls ≤ m → m ≤ t.calls → t.leaves m image → (x : Image) × s.leaves s.calls x × ChangesMembers own x image
  before m image from until left = runs.moments m image from until left

  -- they stand for what they stood for
  pub other_allows : (i m : ℕ) (image : Image) → i ≢ own → s.calls ≤ m → m ≤ t.calls → t.leaves m image → Allows i (groups_of w i) image
  other_allows i m image differ from until left = λ slots.
      let x = before m image from until left in
      let a = stands.allows x.0 i x.1 slots in
      record { completed = a.completed; begun = a.begun; holds = spared_is_sound slots i (groups_of w i) a.completed a.begun x.0 image (changed_spares own i x.0 image differ x.2) a.holds }

  -- ---- a group that was mounted

  module _ (e : SessionEntry) (m : MountedGroup) (differ : e.id ≢ own) (pair : IsPaired w.session groups e m) (is : is_mounted e ≡ true) where
    k : IsMountedAs n e.id m (groups_of w e.id) s
    k = stands.mounted e m pair is

    apart : m.register.id ≢ own
    apart same = differ (sym k.same ∙ same)

    -- is so still
    pub other_mounted : IsMountedAs n e.id m (groups_of w e.id) t
    other_mounted = record {
      same = k.same;
      group = k.group;
      only = k.only;
      kept = k.kept;
      mounts = mounts_elsewhere n m s t k.group k.kept sound k.mounts attached runs (λ x y changes. changed_spares own m.register.id x y apart changes);
      turns = k.turns;
      still = k.still;
    }

    there : (mo : ℕ) (image : Image) → s.calls ≤ mo → mo ≤ t.calls → t.leaves mo image → IsStanding n e.id image
    there mo image from until left =
        let x = before mo image from until left in
        all_stand n e.id m (groups_of w e.id) s k image (spared_is_held n m.register.id (k.group ∷ []) k.kept x.0 image (changed_spares own m.register.id x.0 image apart x.2) (k.mounts.now.now x.0 x.1))

  -- and is there at each moment
  pub other_stands : (i m : ℕ) (image : Image) → i ≢ own → has_mounted w i ≡ true → s.calls ≤ m → m ≤ t.calls → t.leaves m image → IsStanding n i image
  other_stands i m image differ was from until left =
      let p = mounted_pair w.session groups i stands.entries was in
      subst (λ (j : ℕ). IsStanding n j image) p.4 (there p.0 p.1 (λ same. differ (sym p.4 ∙ same)) p.2 p.3 m image from until left)

  -- ---- members

  pub members_now : (held image : Image) → t.holds ≡ Some held → t.leaves t.calls image → HoldsMembers held image
  members_now held image holds left i =
      let h = runs.held held holds in
      let x = before t.calls image runs.later (omega arith) left in
      still_held i h.0 x.0 held image (changed_keeps own i h.0 held h.2) (changed_keeps own i x.0 image x.2) (stands.members h.0 x.0 h.1 x.1 i)

  pub origin_now : (image : Image) (i : ℕ) → t.leaves t.calls image → HasMember i image → (i < given) ⊎ (known i ≡ true)
  origin_now image i left has =
      let x = before t.calls image runs.later (omega arith) left in
      stands.origin x.0 i x.1 (was_member i x.0 image (changed_keeps own i x.0 image x.2) has)
