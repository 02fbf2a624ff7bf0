-- A new group is mounted on the disks as they are.
use Rattle.std.proofs.Common.{◌≡◌, inl, ⊎_elim, ℕ, ◌+◌, ◌*◌, ◌<◌, ◌≤◌, List, [], ◌∷◌, length, refl, sym, ap, subst, ◌∙◌, Option, Some, arith, ◌==◌}
use Rattle.std.proofs.lemmas.Bool.{cond-true, eq-eqb, eqb-true}
use Rattle.bay.specs.Image.{Image, Same}
use Rattle.bay.specs.State.{BayState, IsSound}
use Rattle.bay.specs.Moments.{Ends, NowOnly, Runs}
use Rattle.asm_group.specs.Names.{Bytes}
use Rattle.asm_group.specs.NewGroup.{new_group}
use Rattle.asm_formats.specs.Claim.{Claim}
use Rattle.asm_formats.specs.Items.{Item}
use Rattle.asm_formats.specs.Metadata.{Metadata, metadata}
use Rattle.asm_formats.specs.Status.{Status}
use Rattle.asm_formats.specs.Among.{IsAmong}
use Rattle.asm_images.specs.Describing.{DescribesGroup}
use Rattle.asm_images.specs.Kept.{IsHeld, Kept}
use Rattle.asm_images.specs.Members.{claims_of_group}
use Rattle.change_directory.specs.declared.copy.DirCopy.{DirCopy}
use Rattle.group_engine.specs.Mounts.{AreOwn, HasOnly, IsOwn, MountedGroup, Mounts, Represents}
use Rattle.status_register.specs.Keeping as registers
use Rattle.status_register.specs.Keeping.{EpochStands, HasHistory, ShowsEpoch}
use Rattle.status_register.specs.Registered.{Registered}
use Rattle.status_register.specs.SurveyLaws.{IsMemberOn}
use Rattle.status_register.specs.Surveys.{disk_in}
use Rattle.status_register.specs.declared.member.Member.{Member}
use Rattle.mounted_groups.specs.Creating.{Founds, HasMember, made_group}
use Rattle.mounted_groups.specs.FirstParts.{IsAlone, IsMountedOnSlot, MountsNew, SaysAll, first_member, new_group_register}
use Rattle.mounted_groups.specs.Planned.{Plan, IsGroupPlan, claim_of_plan, header_of_plan, kept_of_plan, record_of_plan}
use Rattle.mounted_groups.specs.Stages.{HasFormed}
use Rattle.mounted_groups.proofs.FirstDisk.{all_there}
use Rattle.mounted_groups.proofs.FirstGroup.{describes}
use Rattle.mounted_groups.proofs.FirstMount.{first_enough, place_at}
use Rattle.mounted_groups.proofs.Moments.{has_before}

-- a disk that has all its parts says so
pub forms_says : {m t : BayState} (slot size : ℕ) (plan : Plan) → IsSound m → m.attached slot ≡ Some size → IsGroupPlan plan → plan.units * 1048576 ≤ size → Ends (HasFormed slot plan) m t → NowOnly t (SaysAll slot plan)
forms_says {m} {t} slot size plan sound attached is room ends = record {
  now = λ image left.
      let from = ends.now image left in
      let sized : from.0.size slot ≡ size = sound.sized slot size from.0 attached from.1 in
      all_there slot plan is image (omega (arith, room, sized, is.least, from.2.elsewhere.size slot)) from.2.has_all;
}

module _ (slot n : ℕ) (plan : Plan) (m : MountedGroup) (state : BayState) (inside : slot < n) (mounted : IsMountedOnSlot slot plan m state) where
  abbrev kept : Kept
  kept = kept_of_plan slot plan

  represents : Represents m (made_group plan.name)
  unfolding new_group
  represents = record {
    name = sym mounted.name;
    shape = sym mounted.shape;
    describes = λ items are. subst (λ (r : Status). DescribesGroup r items (made_group plan.name)) (sym mounted.value)
        (subst (λ (l : List Item). DescribesGroup (record_of_plan plan) l (made_group plan.name)) (sym (mounted.items items are)) (describes slot 0 plan));
  }

  own : AreOwn m kept.slots
  own s = (λ here. subst (λ (k : ℕ). IsOwn m k) (sym (eqb-true s slot here)) mounted.has, λ is_own. eq-eqb s slot (mounted.own s is_own))

  -- ---- of one image

  module _ (image : Image) (held : IsHeld n plan.id (made_group plan.name ∷ []) kept image) (says : SaysAll slot plan image) where
    member : IsMemberOn n plan.id image (first_member slot)
    unfolding metadata
    member = record { inside = inside; header = header_of_plan plan; header_is = ap (λ (d : Metadata). d.header) says; group = refl; number = refl; birth = refl }

    claimed : IsAmong (claims_of_group plan.id (Some (claim_of_plan plan) ∷ [])) (claim_of_plan plan)
    claimed = subst (λ (l : List Claim). IsAmong l (claim_of_plan plan)) (sym (cond-true (plan.id == plan.id) (claim_of_plan plan ∷ []) [] (eq-eqb plan.id plan.id refl))) (inl refl)

    epoch_shown : ShowsEpoch plan.id 1 (disk_in image slot)
    epoch_shown = inl (
      claim_of_plan plan,
      subst (λ (l : List (Option Claim)). IsAmong (claims_of_group plan.id l) (claim_of_plan plan)) (sym (ap (λ (d : Metadata). d.claims) says)) claimed,
      omega arith,
    )

    of_first : (P : Member → Type 0) → P (first_member slot) → (x : Member) → IsAmong (first_member slot ∷ []) x → P x
    of_first P has x among = ⊎_elim (λ (e : x ≡ first_member slot). subst P (sym e) has) (λ none. absurd none) among

    stands : EpochStands n plan.id 1 (record_of_plan plan) image
    stands = record {
      on = first_member slot ∷ [];
      members = of_first (λ (x : Member). IsMemberOn n plan.id image x) member;
      shown = of_first (λ (x : Member). ShowsEpoch plan.id 1 (disk_in image x.slot)) epoch_shown;
      enough = first_enough slot plan;
    }

    history : HasHistory n (new_group_register slot plan) (Some (record_of_plan plan)) [] image
    history = record {
      fits = (held.sound n).fits;
      members = λ i x at. subst (λ (y : Member). IsMemberOn n plan.id image y) (sym (place_at slot i x at).1) member;
      claimed = stands;
    }

  -- ---- of all images

  module _ (held : NowOnly state (IsHeld n plan.id (made_group plan.name ∷ []) kept)) (says : NowOnly state (SaysAll slot plan)) where
    keeps : registers.FitsRegister n m.register (Some m.register.value) [] state
    keeps = mounted.history n (subst (λ (q : Registered). NowOnly state (HasHistory n q (Some q.value) [])) (sym mounted.register)
        (record { now = λ image left. history image (held.now image left) (says.now image left) }))

    mounts : Mounts n m state (made_group plan.name) kept
    mounts = record {
      whole = mounted.whole;
      ready = mounted.ready;
      represents = represents;
      own = own;
      completed = sym mounted.value;
      begun = refl;
      register = keeps;
      now = subst (λ (k : ℕ). NowOnly state (IsHeld n k (made_group plan.name ∷ []) kept)) (sym mounted.id) held;
    }

-- ---- the whole creation

module _ {s mid t : BayState} (n slot : ℕ) (plan : Plan) (m : MountedGroup) (inside : slot < n) (looks : Runs (λ k. k < n) Same s mid) (founds : Ends (Founds n plan.id (made_group plan.name) (kept_of_plan slot plan)) mid t)
    (says : NowOnly t (SaysAll slot plan)) (mounted : IsMountedOnSlot slot plan m t) (none : NowOnly s (λ image. HasMember m.register.id image → ⊥)) where
  -- no disk was a member once all images had been looked at
  none_then : (image : Image) → mid.leaves mid.calls image → HasMember plan.id image → ⊥
  none_then image left has =
      let from = looks.moments mid.calls image looks.later (omega arith) left in
      none.now from.0 from.1 (subst (λ (k : ℕ). HasMember k from.0) (sym mounted.id) (has_before plan.id from.0 image from.2 has))

  held : NowOnly t (IsHeld n plan.id (made_group plan.name ∷ []) (kept_of_plan slot plan))
  held = record { now = λ image left. let from = founds.now image left in from.2.is_held (none_then from.0 from.1) }

  only : NowOnly t (HasOnly plan.id (kept_of_plan slot plan))
  only = record { now = λ image left. let from = founds.now image left in from.2.here (none_then from.0 from.1) }

  alone : IsAlone n (made_group plan.name) m t
  alone = record {
    kept = kept_of_plan slot plan;
    mounts = mounts slot n plan m t inside mounted held says;
    only = subst (λ (k : ℕ). NowOnly t (HasOnly k (kept_of_plan slot plan))) (sym mounted.id) only;
  }

-- by the name that was asked for
pub new_mounts : {s mid t : BayState} (n slot : ℕ) (plan : Plan) (name : Bytes) (m : MountedGroup) → plan.name ≡ name → slot < n → Runs (λ k. k < n) Same s mid
    → Ends (Founds n plan.id (made_group plan.name) (kept_of_plan slot plan)) mid t → NowOnly t (SaysAll slot plan) → IsMountedOnSlot slot plan m t → MountsNew n (made_group name) m s t
new_mounts {s} {mid} {t} n slot plan name m named inside looks founds says mounted = record {
  represents = subst (λ (l : Bytes). Represents m (made_group l)) named (represents slot n plan m t inside mounted);
  turns = ap (λ (r : Registered). r.turn + length m.store.copies) mounted.register ∙ ap (λ (l : List DirCopy). 1 + length l) mounted.copies;
  still = mounted.still;
  alone = λ none. subst (λ (l : Bytes). IsAlone n (made_group l) m t) named (alone {s = s} {mid = mid} {t = t} n slot plan m inside looks founds says mounted none);
}
