-- A call of a group that is mounted beside others.
use Rattle.std.proofs.Common.{◌≡◌, ◌⊎◌, ◌≤◌, ℕ, Bool, true, false, List, [], ◌∷◌, refl, sym, ap, ◌∙◌, arith, inl, inr}
use Rattle.std.proofs.lemmas.Bool.{cases_Bool, true≢false}
use Rattle.bay.specs.Image.{Image, SameDisk}
use Rattle.bay.specs.State.{BayState, IsSound}
use Rattle.bay.specs.Moments.{LeavesOnly, Runs}
use Rattle.asm_group.specs.Group.{Group}
use Rattle.asm_formats.specs.Header.{Header}
use Rattle.asm_base.proofs.Exact.{some_is}
use Rattle.asm_images.specs.Kept.{IsHeld, IsMemberIn, Kept}
use Rattle.status_register.specs.Elsewhere.{IsNoMember}
use Rattle.group_engine.specs.Commits.{StandsIn}
use Rattle.group_engine.specs.Frames.{KeptSparesOthers, SparesOtherIds}
use Rattle.group_engine.specs.Mounts.{IsOwn, MountedGroup, Mounts}
use Rattle.group_engine.specs.Own.{KeepsGroup, OnOwnDisks}

-- a member of one id is none of another
no_member : (a b slot : ℕ) (image : Image) → (b ≡ a → ⊥) → IsMemberIn a image slot → IsNoMember b slot image
no_member a b slot image other has h at is = other (sym is ∙ ap (λ (k : Header). k.id) (some_is h has.0 (sym at ∙ has.1)) ∙ has.2)

-- each attached disk is a member
abbrev HasOwn : MountedGroup → Image → Type 0
HasOwn m image = (slot : ℕ) → IsOwn m slot → IsMemberIn m.register.id image slot

module _ (s t : BayState) (before : IsSound s) (after : IsSound t) (n : ℕ) (m new : MountedGroup) (groups : List Group) (g : Group) (kept : Kept) (mounts : Mounts n m s g kept) (keeps : KeepsGroup m new s t)
    (over : LeavesOnly s t (StandsIn n m.register.id groups kept)) where
  held_own : (some : List Group) (by : Kept) (image : Image) → by.slots ≡ kept.slots → IsHeld n m.register.id some by image → HasOwn m image
  held_own some by image same held slot own = held.there slot (ap (λ (slots : ℕ → Bool). slots slot) same ∙ (mounts.own slot).1 own)

  own_before : (image : Image) → s.leaves s.calls image → HasOwn m image
  own_before image left = held_own (g ∷ []) kept image refl (mounts.now.now image left)

  own_over : (k : ℕ) (image : Image) → s.calls ≤ k → k ≤ t.calls → t.leaves k image → HasOwn m image
  own_over k image low high left = let in_moment = over.each k image low high left in held_own groups in_moment.by image in_moment.slots in_moment.is

  spares : (x y : Image) → OnOwnDisks m x y → HasOwn m x → HasOwn m y → SparesOtherIds m.register.id x y
  spares x y step own_x own_y id other slot = by (cases_Bool (kept.slots slot))
    where
      by : (kept.slots slot ≡ true) ⊎ (kept.slots slot ≡ false) → SameDisk slot x y ⊎ (IsNoMember id slot x × IsNoMember id slot y)
      by (inl attached) =
          let own = (mounts.own slot).0 attached in
          inr (no_member m.register.id id slot x other (own_x slot own), no_member m.register.id id slot y other (own_y slot own))
      by (inr out) =
          let not_own : IsOwn m slot → ⊥ = λ own. true≢false (sym ((mounts.own slot).1 own) ∙ out) in
          inl (record { size = step.size slot; byte = λ k. step.byte slot k not_own })

  spared : Runs (IsOwn m) (SparesOtherIds m.register.id) s t
  spared = record {
    later = keeps.runs.later;
    faults = keeps.runs.faults;
    other_faults = keeps.runs.other_faults;
    other_written = keeps.runs.other_written;
    tells = keeps.runs.tells;
    held = λ image is.
        let x = keeps.runs.held image is in
        (x.0, x.1, spares x.0 image x.2 (own_before x.0 (before.held x.0 x.1)) (own_over t.calls image keeps.runs.later (omega arith) (after.held image is)));
    ended = keeps.runs.ended;
    moments = λ k image low high left.
        let x = keeps.runs.moments k image low high left in
        (x.0, x.1, spares x.0 image x.2 (own_before x.0 x.1) (own_over k image low high left));
  }

pub others_are_spared : (s t : BayState) → IsSound s → IsSound t → KeptSparesOthers s t
others_are_spared s t before after n m new groups g kept mounts keeps over = spared s t before after n m new groups g kept mounts keeps over
