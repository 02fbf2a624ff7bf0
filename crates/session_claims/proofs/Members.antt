-- Members of an id that stay from one image to another.
use Rattle.std.proofs.Common.{◌≡◌, ◌≢◌, inl, inr, ⊎_elim, ℕ, Bool, true, false, List, sym, ◌∙◌, ◌↔◌, ap, subst, arith}
use Rattle.std.proofs.lemmas.Bool.{cases_Bool, cases_eq, true≢false}
use Rattle.std.proofs.lemmas.Option.{same_Some}
use Rattle.bay.specs.Image.{Image, Same, SameDisk}
use Rattle.bay.specs.Moments.{LeavesOnly, Runs}
use Rattle.bay.specs.State.{BayState, IsSound}
use Rattle.asm_group.specs.Group.{Group}
use Rattle.asm_formats.specs.Header.{Header}
use Rattle.asm_images.specs.Bridge.{disk_bytes}
use Rattle.asm_images.specs.Kept.{IsMemberIn, Kept}
use Rattle.asm_images.proofs.Bridges.{same_disk}
use Rattle.asm_images.proofs.Held.{same_member}
use Rattle.mounted_groups.specs.Creating.{HasMember}
use Rattle.mounted_groups.specs.group_engine.Commits.{StandsIn}
use Rattle.mounted_groups.specs.group_engine.Frames.{SparesGroup}
use Rattle.mounted_groups.specs.group_engine.Mounts.{IsOwn, MountedGroup, Mounts}
use Rattle.mounted_groups.specs.group_engine.Own.{KeepsGroup, OnOwnDisks}
use Rattle.mounted_groups.specs.group_recovery.Recovered.{ChangesMembers}
use Rattle.mounted_groups.specs.status_register.Elsewhere.{IsNoMember}
use Rattle.session_claims.specs.Claims.{HoldsMembers}
use Rattle.session_claims.proofs.Images.{has_slot, slot_has}

-- each slot's disk is a member of the id in both images or in neither
abbrev pub KeepsMembers : ℕ → Image → Image → Type 0
KeepsMembers id x y = (slot : ℕ) → IsMemberIn id x slot ↔ IsMemberIn id y slot

-- ---- what keeps them

pub disk_keeps : (id slot : ℕ) (x y : Image) → SameDisk slot x y → IsMemberIn id x slot ↔ IsMemberIn id y slot
disk_keeps id slot x y same =
    let bytes : disk_bytes y slot ≡ disk_bytes x slot = same_disk x y slot same.size same.byte in
    ((λ has. same_member id slot x y bytes has), (λ has. same_member id slot y x (sym bytes) has))

pub same_keeps : (id : ℕ) (x y : Image) → Same x y → KeepsMembers id x y
same_keeps id x y same slot = disk_keeps id slot x y (record { size = same.size slot; byte = λ k. same.byte slot k })

-- a member of one id is none of another
no_member : (own id slot : ℕ) (x : Image) → id ≢ own → IsMemberIn own x slot → IsNoMember id slot x
no_member own id slot x other is h at named = other (sym named ∙ ap (λ (k : Header). k.id) (same_Some h is.0 (sym at ∙ is.1)) ∙ is.2)

-- where members of one id change, those of other ids stay
pub changed_spares : (own id : ℕ) (x y : Image) → id ≢ own → ChangesMembers own x y → SparesGroup id x y
changed_spares own id x y other changes slot = ⊎_elim
    inl
    (λ both. inr (no_member own id slot x other both.0, no_member own id slot y other both.1))
    (changes slot)

-- and each id has the members that it had
pub changed_keeps : (own id : ℕ) (x y : Image) → ChangesMembers own x y → KeepsMembers id x y
changed_keeps own id x y changes slot = ⊎_elim
    (λ kept. disk_keeps id slot x y kept)
    (λ both. ⊎_elim
    (λ (here : id ≡ own). ((λ has. subst (λ (i : ℕ). IsMemberIn i y slot) (sym here) both.1), (λ has. subst (λ (i : ℕ). IsMemberIn i x slot) (sym here) both.0)))
    (λ other. ((λ has. absurd (no_member own id slot x other both.0 has.0 has.1 has.2)), (λ has. absurd (no_member own id slot y other both.1 has.0 has.1 has.2))))
    (cases_eq id own))
    (changes slot)

-- ---- what a mounted group changes

module _ (s t : BayState) (sound : IsSound s) (later : IsSound t) (n : ℕ) (m new : MountedGroup) (groups : List Group) (g : Group) (kept : Kept) (mounts : Mounts n m s g kept) (keeps : KeepsGroup m new s t)
    (moments : LeavesOnly s t (StandsIn n m.register.id groups kept)) where
  change : (x y : Image) → s.leaves s.calls x → StandsIn n m.register.id groups kept y → OnOwnDisks m x y → ChangesMembers m.register.id x y
  change x y left at step slot = ⊎_elim
      (λ (yes : kept.slots slot ≡ true). inr ((mounts.now.now x left).there slot yes, at.is.there slot (ap (λ (slots : ℕ → Bool). slots slot) at.slots ∙ yes)))
      (λ (no : kept.slots slot ≡ false).
      let apart : IsOwn m slot → ⊥ = λ own. true≢false (sym ((mounts.own slot).1 own) ∙ no) in
      inl (record { size = step.size slot; byte = λ k. step.byte slot k apart }))
      (cases_Bool (kept.slots slot))

  pub kept_change : Runs (IsOwn m) (ChangesMembers m.register.id) s t
  kept_change = let run = keeps.runs in record {
    later = run.later;
    faults = run.faults;
    other_faults = run.other_faults;
    other_written = run.other_written;
    tells = run.tells;
    held = λ image is.
        let x = run.held image is in
        (x.0, x.1, change x.0 image (sound.held x.0 x.1) (moments.each t.calls image moments.later (omega arith) (later.held image is)) x.2);
    ended = run.ended;
    moments = λ k image from until left. let x = run.moments k image from until left in (x.0, x.1, change x.0 image x.1 (moments.each k image from until left) x.2);
  }

-- ---- over a step

pub was_member : (id : ℕ) (x y : Image) → KeepsMembers id x y → HasMember id y → HasMember id x
was_member id x y keeps has = let at = has_slot id y has in slot_has id x at.0 ((keeps at.0).1 at.1)

-- the members of one id that an image has are held, where they were
abbrev pub HoldsMembersOf : ℕ → Image → Image → Type 0
HoldsMembersOf id held image = (slot : ℕ) → HasMember id held → IsMemberIn id image slot → IsMemberIn id held slot

pub still_held : (id : ℕ) (h x held image : Image) → KeepsMembers id h held → KeepsMembers id x image → HoldsMembersOf id h x → HoldsMembersOf id held image
still_held id h x held image stay keeps was slot has is = (stay slot).0 (was slot (was_member id h held stay has) ((keeps slot).1 is))

-- images that are one image hold each other's members
pub one_holds : (first held image : Image) → Same first held → Same first image → HoldsMembers held image
one_holds first held image same also id = still_held id first first held image (same_keeps id first held same) (same_keeps id first image also) (λ slot has is. is)
