-- Calls that keep a mounted group change disks of its members alone.
use Rattle.std.proofs.Common.{◌≡◌, ◌⊎◌, inl, inr, ⊎_elim, ℕ, ◌<◌, Bool, true, false, List, sym, ap, ◌∙◌, arith}
use Rattle.std.proofs.lemmas.Bool.{cases_Bool, true≢false}
use Rattle.bay.specs.Image.{Image, SameDisk}
use Rattle.bay.specs.Moments.{LeavesOnly, Runs}
use Rattle.bay.specs.State.{BayState, IsSound}
use Rattle.bay.proofs.Calls.{goes_on, on_more, stops}
use Rattle.asm_group.specs.Group.{Group}
use Rattle.asm_images.specs.Kept.{IsMemberIn, Kept}
use Rattle.asm_images.proofs.Bridges.{same_disk}
use Rattle.asm_images.proofs.Held.{same_member}
use Rattle.group_engine.specs.Commits.{StandsIn}
use Rattle.group_engine.specs.Mounts.{IsOwn, MountedGroup, Mounts}
use Rattle.group_engine.specs.Own.{KeepsGroup, OnOwnDisks}
use Rattle.group_recovery.specs.Recovered.{ChangesMembers}

-- ---- one call and then another

-- the same disk is a member, as before and after
still_member : (id slot : ℕ) (x y : Image) → SameDisk slot x y → IsMemberIn id x slot → IsMemberIn id y slot
still_member id slot x y same is = same_member id slot x y (same_disk x y slot same.size same.byte) is

was_member : (id slot : ℕ) (x y : Image) → SameDisk slot x y → IsMemberIn id y slot → IsMemberIn id x slot
was_member id slot x y same is = same_member id slot y x (sym (same_disk x y slot same.size same.byte)) is

changes_then : (id : ℕ) (x y z : Image) → ChangesMembers id x y → ChangesMembers id y z → ChangesMembers id x z
changes_then id x y z one two slot = by (one slot) (two slot) where
  by : SameDisk slot x y ⊎ (IsMemberIn id x slot × IsMemberIn id y slot) → SameDisk slot y z ⊎ (IsMemberIn id y slot × IsMemberIn id z slot) → SameDisk slot x z ⊎ (IsMemberIn id x slot × IsMemberIn id z slot)
  by (inl a) (inl b) = inl (record { size = b.size ∙ a.size; byte = λ k. b.byte k ∙ a.byte k })
  by (inl a) (inr b) = inr (was_member id slot x y a b.0, b.1)
  by (inr a) (inl b) = inr (a.0, still_member id slot y z b a.1)
  by (inr a) (inr b) = inr (a.0, b.1)

-- ---- a group that is kept

module _ (s t : BayState) (before : IsSound s) (after : IsSound t) (n : ℕ) (old new : MountedGroup) (groups : List Group) (g : Group) (kept : Kept) (mounts : Mounts n old s g kept)
    (keeps : KeepsGroup old new s t) (stands : LeavesOnly s t (StandsIn n old.register.id groups kept)) where
  change : (x y : Image) → s.leaves s.calls x → StandsIn n old.register.id groups kept y → OnOwnDisks old x y → ChangesMembers old.register.id x y
  change x y left then step slot = ⊎_elim
      (λ (attached : kept.slots slot ≡ true). inr ((mounts.now.now x left).there slot attached, then.is.there slot (ap (λ (slots : ℕ → Bool). slots slot) then.slots ∙ attached)))
      (λ (out : kept.slots slot ≡ false). inl (record { size = step.size slot; byte = λ k. step.byte slot k (λ own. true≢false (sym ((mounts.own slot).1 own) ∙ out)) }))
      (cases_Bool (kept.slots slot))

  pub own_changes : Runs (IsOwn old) (ChangesMembers old.register.id) s t
  own_changes = record {
    later = keeps.runs.later;
    faults = keeps.runs.faults;
    other_faults = keeps.runs.other_faults;
    other_written = keeps.runs.other_written;
    tells = keeps.runs.tells;
    held = λ image is.
        let x = keeps.runs.held image is in
        (x.0, x.1, change x.0 image (before.held x.0 x.1) (stands.each t.calls image keeps.runs.later (omega arith) (after.held image is)) x.2);
    ended = keeps.runs.ended;
    moments = λ m image from to left.
        let x = keeps.runs.moments m image from to left in
        (x.0, x.1, change x.0 image x.1 (stands.each m image from to left) x.2);
  }

-- ---- a mount and the calls behind its record

-- those of an id alone change from the state before on, where they do so up to there
pub changes_on : (n id : ℕ) {some : ℕ → Type 0} {s m t : BayState} → ((slot : ℕ) → some slot → slot < n) → Runs (λ slot. slot < n) (ChangesMembers id) s m → Runs some (ChangesMembers id) m t → Runs (λ slot. slot < n) (ChangesMembers id) s t
changes_on n id {some} {s} {m} {t} inside one two = goes_on (changes_then id) one (stops one) (on_more inside two)
