-- An image is made anew where nothing is lost by it.
use Rattle.std.proofs.Common.{◌≡◌, ◌≢◌, ◌⊎◌, inl, inr, ⊎_elim, ℕ, ◌<◌, Bool, true, List, refl, sym, ap, subst, ◌∙◌, Some, None, ◌==◌}
use Rattle.std.specs.List.{list_any}
use Rattle.std.proofs.lemmas.Option.{none-some, same_Some}
use Rattle.bay.specs.Counts.{Rose}
use Rattle.bay.specs.Image.{Image, Makes, MayMake, Same, SameDisk}
use Rattle.bay.specs.Moments.{Ends, Runs}
use Rattle.bay.specs.State.{AttachesOnly, BayState, IsSlot, IsSound}
use Rattle.bay.proofs.Calls.{both_done, goes_on, on_more, started, stops, widened}
use Rattle.bay.proofs.Images.{same-makes}
use Rattle.asm_group.specs.Names.{Bytes}
use Rattle.asm_group.specs.Refusal as r
use Rattle.asm_formats.specs.Header.{Header}
use Rattle.asm_images.specs.Kept.{header_in}
use Rattle.group_recovery.specs.disk_images.Looks.{IsLooked, Looks}
use Rattle.group_recovery.specs.disk_images.declared.looking.Looked.{Looked}
use Rattle.group_recovery.specs.disk_images.declared.looking.Looked.TheVariants as look
use Rattle.mounted_groups.specs.FirstParts.{SameBut, SparesAllBut}
use Rattle.mounted_groups.specs.Found.{Counts, IsSlotOfPath, ToldByCounts, counts_of}
use Rattle.mounted_groups.specs.Making.{IsLookFree, IsImageMade, IsNotFree, MakeCause, StaysBut}
use Rattle.mounted_groups.specs.Holding.{IsHeldSlot, SameHeld, SparesHeld}
use Rattle.mounted_groups.proofs.FirstSpares.{but_trans, looks_spare}
use Rattle.mounted_groups.proofs.Spared.{held_trans, looks_held}
use Rattle.bay.proofs.Telling.{told_before}
use Rattle.group_recovery.proofs.Told.{rose_before, rose_later, same_header}

-- ---- before an image is looked at

module _ (paths : List Bytes) (path : Bytes) (held : List ℕ) where
  says_cause : (given wanted : r.Refusal) (s t : Counts) → (given ≡ wanted) ⊎ (given ≡ r.NoMemory) → MakeCause paths path held wanted s t → MakeCause paths path held given s t
  says_cause given wanted s t says why = ⊎_elim
      (λ (e : given ≡ wanted). subst (λ (x : r.Refusal). MakeCause paths path held x s t) (sym e) why)
      (λ (e : given ≡ r.NoMemory). subst (λ (x : r.Refusal). MakeCause paths path held x s t) (sym e) tt) says

  pub no_slot_cause : (given : r.Refusal) (s : Counts) → ((slot : ℕ) → IsSlotOfPath paths path slot → ⊥) → (given ≡ r.NoDisk path) ⊎ (given ≡ r.NoMemory) → MakeCause paths path held given s s
  no_slot_cause given s none says = says_cause given (r.NoDisk path) s s says (refl, inl none)

  pub nothing_made : (s : BayState) → StaysBut paths path held s s
  nothing_made s = record { others = λ k size other is. is; held = λ k size is_held is. is }

  pub nothing_changed : (n : ℕ) (s : BayState) → SparesAllBut paths path n s s
  nothing_changed n s = started (λ x k other. record { size = refl; byte = λ j. refl })

  pub nothing_held : (n : ℕ) (s : BayState) → SparesHeld held n s s
  nothing_held n s = started (λ x k is_held. record { size = refl; byte = λ j. refl })

module _ (paths : List Bytes) (path : Bytes) (held : List ℕ) (slot : ℕ) (is_slot : IsSlotOfPath paths path slot) where
  -- ---- causes

  -- the slot is one of those that are held
  pub held_cause : (given : r.Refusal) (s : Counts) (b : Bool) → b ≡ list_any (λ k. k == slot) held → b ≡ true → (given ≡ r.DiskTaken path) ⊎ (given ≡ r.NoMemory) → MakeCause paths path held given s s
  held_cause given s b is holds says = says_cause paths path held given (r.DiskTaken path) s s says (refl, record { slot = slot; is_slot = is_slot; by = inl (sym is ∙ holds) })

  -- the slot failed after the look
  pub failed_cause : (given : r.Refusal) (s m t : BayState) → Looks (IsSlot slot) 4 s m → Rose (m.faults slot) (t.faults slot) → (given ≡ r.NoDisk path) ⊎ (given ≡ r.NoMemory)
      → MakeCause paths path held given (counts_of s) (counts_of t)
  failed_cause given s m t looks rose says =
      says_cause paths path held given (r.NoDisk path) (counts_of s) (counts_of t) says (refl, inr (slot, is_slot, rose_before (s.faults slot) (m.faults slot) (t.faults slot) (looks.runs.faults slot) rose))

  -- a header that is told now was there before
  pub had_header : {slots : ℕ → Type 0} (s t : BayState) (size : ℕ) (h : Header) → IsSound t → Runs slots Same s t → IsLooked slot (look.Read size (Some h)) s t
      → (now : Image) → t.holds ≡ Some now → (image : Image) → s.holds ≡ Some image → header_in image slot ≢ None
  had_header {slots} s t size h sound run looked now holds image was none =
      let from = run.held now holds in
      let same : from.0 ≡ image = same_Some from.0 image (sym from.1 ∙ was) in
      let there : header_in now slot ≡ Some h = looked.now.now now (sound.held now holds) in
      none-some h (sym none ∙ (ap (λ (x : Image). header_in x slot) (sym same) ∙ (sym (same_header slot from.0 now from.2) ∙ there)))

  pub not_free : (s t : BayState) (looked : Looked) (given : r.Refusal) → IsSound t → Looks (IsSlot slot) 4 s t → IsLooked slot looked s t → IsNotFree path looked given
      → MakeCause paths path held given (counts_of s) (counts_of t)
  not_free s t looked (r.ReadFault text) sound looks is why = (
    why.0,
    record { slot = slot; is_slot = is_slot; rose = (subst (λ (l : Looked). IsLooked slot l s t) why.2 is).1 },
  )
  not_free s t looked (r.DiskTaken text) sound looks is why = (
    why.0,
    record {
      slot = slot;
      is_slot = is_slot;
      by = inr (λ now holds image was. had_header s t why.1 why.2 sound looks.runs (subst (λ (l : Looked). IsLooked slot l s t) why.3 is) now holds image was);
    },
  )
  not_free s t looked r.NoMemory sound looks is why = tt
  not_free s t looked other sound looks is why = absurd why

  -- the image that was looked at was absent, or bore no open header
  pub was_free : (s m t : BayState) (looked : Looked) {slots : ℕ → Type 0} {step : Image → Image → Type 0} → IsSound m → Looks (IsSlot slot) 4 s m → IsLooked slot looked s m → IsLookFree looked
      → Runs slots step m t → Rose (s.faults slot) (t.faults slot) ⊎ ToldByCounts (counts_of s) (counts_of t) (λ image. header_in image slot ≡ None)
  was_free s m t look.Absent sound looks is free makes = inl (rose_later (s.faults slot) (m.faults slot) (t.faults slot) (makes.faults slot) is.1)
  was_free s m t (look.Read size None) sound looks is free makes =
      inr (told_before s m t (λ image. header_in image slot ≡ None) looks.runs makes (λ x y same none. sym (same_header slot x y same) ∙ none) (λ now holds image was. is.now.now image (sound.held image was)))
  was_free s m t other sound looks is free makes = absurd free

  -- ---- what stays

  pub looks_stay : {s t : BayState} → Looks (IsSlot slot) 4 s t → StaysBut paths path held s t
  looks_stay {s} {t} looks = record { others = λ k size other is. looks.stays k size is; held = λ k size is_held is. looks.stays k size is }

  inside : (n : ℕ) → slot < n → (k : ℕ) → k ≡ slot → k < n
  inside n below k is = subst (λ (j : ℕ). j < n) (sym is) below

  module _ (n : ℕ) (below : slot < n) {s t : BayState} (looks : Looks (IsSlot slot) 4 s t) where
    pub looked_spares : SparesAllBut paths path n s t
    looked_spares = looks_spare paths path n (on_more (inside n below) looks.runs)

    pub looked_held : SparesHeld held n s t
    looked_held = looks_held held n (on_more (inside n below) looks.runs)

  module _ (free : IsHeldSlot held slot → ⊥) where
    pub made_stays : {s m t : BayState} → Looks (IsSlot slot) 4 s m → AttachesOnly slot m t → StaysBut paths path held s t
    made_stays {s} {m} {t} looks only = record {
      others = λ k size other is. only.others k (λ same. other (subst (λ (j : ℕ). IsSlotOfPath paths path j) (sym same) is_slot)) ∙ looks.stays k size is;
      held = λ k size is_held is. only.others k (λ same. free (subst (λ (j : ℕ). IsHeldSlot held j) same is_held)) ∙ looks.stays k size is;
    }

    -- a disk in another slot stays while an image is made
    make_other : (x y : Image) → MayMake slot x y → (k : ℕ) → k ≢ slot → SameDisk k x y
    make_other x y made k other = ⊎_elim
        (λ (same : Same x y). record { size = same.size k; byte = same.byte k })
        (λ (zeros : (n : ℕ) × Makes slot n x y). record { size = zeros.1.other_size k other; byte = λ j. zeros.1.other_byte k j other }) made

    make_but : (x y : Image) → MayMake slot x y → SameBut paths path x y
    make_but x y made k other = make_other x y made k (λ same. other (subst (λ (j : ℕ). IsSlotOfPath paths path j) (sym same) is_slot))

    make_held : (x y : Image) → MayMake slot x y → SameHeld held x y
    make_held x y made k is_held = make_other x y made k (λ same. free (subst (λ (j : ℕ). IsHeldSlot held j) same is_held))

    module _ (n : ℕ) (below : slot < n) {s m t : BayState} (looks : Looks (IsSlot slot) 4 s m) (makes : Runs (IsSlot slot) (MayMake slot) m t) where
      pub made_spares : SparesAllBut paths path n s t
      made_spares =
          let first = looks_spare paths path n (on_more (inside n below) looks.runs) in
          goes_on (but_trans paths path) first (stops first) (on_more (inside n below) (widened make_but makes))

      pub made_spares_held : SparesHeld held n s t
      made_spares_held =
          let first = looks_held held n (on_more (inside n below) looks.runs) in
          goes_on (held_trans held) first (stops first) (on_more (inside n below) (widened make_held makes))

  pub is_made : (size : ℕ) {s m t : BayState} → (IsHeldSlot held slot → ⊥) → Rose (s.faults slot) (t.faults slot) ⊎ ToldByCounts (counts_of s) (counts_of t) (λ image. header_in image slot ≡ None)
      → Looks (IsSlot slot) 4 s m → t.attached slot ≡ Some size → Ends (Makes slot size) m t → IsImageMade paths path held size s t
  is_made size {s} {m} {t} apart free looks attached ends = record {
    slot = slot;
    is_slot = is_slot;
    apart = apart;
    free = free;
    attached = attached;
    made = both_done (same-makes slot size) (stops looks.runs) ends;
  }
