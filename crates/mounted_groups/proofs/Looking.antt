-- One look after another.
use Rattle.std.proofs.Common.{◌≡◌, ⊎_elim, ℕ, ◌+◌, ◌-◌, ◌<◌, ◌≤◌, List, [], ◌∷◌, ◌++◌, length, get_or, Contains, Option, Some, None, refl, sym, ap, subst, ◌∙◌, arith}
use Rattle.std.proofs.lemmas.Option.{same_Some, none-some}
use Rattle.std.proofs.lemmas.Bool.{cases_lt}
use Rattle.std.proofs.lemmas.List.{get_or_append_left, get_or-append_right, append-nil, length-append}
use Rattle.std.proofs.lemmas.List.Elements.{Contains-append_left, Contains-append_right}
use Rattle.std.specs.Option.{ForSome, option_map}
use Rattle.bay.specs.Image.{Image, Same}
use Rattle.bay.specs.State.{BayState, IsSlot, AttachesOnly}
use Rattle.bay.specs.Counts.{Rose}
use Rattle.bay.specs.Moments.{Runs}
use Rattle.asm_formats.specs.Header.{Header}
use Rattle.asm_images.specs.Kept.{header_in}
use Rattle.mounted_groups.specs.Found.{counts_of, ToldByCounts, AreIdsRead, AreAllRead}
use Rattle.mounted_groups.specs.Probes.{id_in, IsShown, IsUsableProbe, ids_of, size_shown}
use Rattle.mounted_groups.specs.declared.find.Probe.{Probe}
use Rattle.mounted_groups.specs.declared.find.Probe.TheVariants as probe
use Rattle.bay.proofs.Telling.{told_before, told_later}
use Rattle.group_recovery.proofs.Told.{rose_before, rose_later}
use Rattle.mounted_groups.proofs.Told.{same_id}

-- the header of an id
some_header : (o : Option Header) (id : ℕ) → option_map (λ (h : Header). h.id) o ≡ Some id → (h : Header) × (o ≡ Some h) × (h.id ≡ id)
some_header None id is = absurd (none-some id is)
some_header (Some h) id is = (h, refl, same_Some h.id id is)

module _ (s m t : BayState) {early : ℕ → Type 0} (first : Runs early Same s m) where
  -- what is shown is shown from an earlier moment on, if the disks were left
  pub shown_before : {later : ℕ → Type 0} (slot : ℕ) (p : Probe) → Runs later Same m t → IsShown slot p (counts_of m) (counts_of t) → IsShown slot p (counts_of s) (counts_of t)
  shown_before slot probe.Absent next is = rose_before (s.faults slot) (m.faults slot) (t.faults slot) (first.faults slot) is
  shown_before slot (probe.Unread size) next is = (is.0, rose_before (s.faults slot) (m.faults slot) (t.faults slot) (first.faults slot) is.1)
  shown_before slot (probe.Read size id) next is = (is.0, told_before s m t (λ image. id_in image slot ≡ id) first next (same_id slot id) is.1)

module _ (s m t : BayState) {later : ℕ → Type 0} {step : Image → Image → Type 0} (next : Runs later step m t) where
  -- what is shown of a slot is shown later, if it is attached as it was
  pub shown_later : (slot : ℕ) (p : Probe) → t.attached slot ≡ m.attached slot → IsShown slot p (counts_of s) (counts_of m) → IsShown slot p (counts_of s) (counts_of t)
  shown_later slot probe.Absent same is = rose_later (s.faults slot) (m.faults slot) (t.faults slot) (next.faults slot) is
  shown_later slot (probe.Unread size) same is = (same ∙ is.0, rose_later (s.faults slot) (m.faults slot) (t.faults slot) (next.faults slot) is.1)
  shown_later slot (probe.Read size id) same is = (same ∙ is.0, told_later s m t (λ image. id_in image slot ≡ id) next is.1)

  pub ids_later : (ids : List ℕ) → AreIdsRead ids (counts_of s) (counts_of m) → AreIdsRead ids (counts_of s) (counts_of t)
  ids_later ids are = record { each = λ i below. told_later s m t (λ image. (slot : ℕ) × (h : Header) × (header_in image slot ≡ Some h) × (h.id ≡ get_or ids i 0)) next (are.each i below) }

  -- all that was read is read later, if what is attached was so before
  pub all_later : (n : ℕ) (ids : List ℕ) → ((slot : ℕ) → slot < n → t.attached slot ≡ m.attached slot) → AreAllRead n ids (counts_of s) (counts_of m) → AreAllRead n ids (counts_of s) (counts_of t)
  all_later n ids same are = record {
    each = λ slot size below attached still.
        told_later s m t (λ image. ForSome (header_in image slot) (λ h. Contains ids h.id)) next
        (are.each slot size below (sym (same slot below) ∙ attached) (λ rose. still (rose_later (s.faults slot) (m.faults slot) (t.faults slot) (next.faults slot) rose)));
  }

-- ---- one look more

all_more_ids : (s t : BayState) (n : ℕ) (ids more : List ℕ) → AreAllRead n ids (counts_of s) (counts_of t) → AreAllRead n (ids ++ more) (counts_of s) (counts_of t)
all_more_ids s t n ids more are = record {
  each = λ slot size below attached still now holds image was h is.
      Contains-append_left ids more h.id (are.each slot size below attached still now holds image was h is);
}

ids_and_one : (s t : BayState) (ids : List ℕ) (id : ℕ) → AreIdsRead ids (counts_of s) (counts_of t)
    → ToldByCounts (counts_of s) (counts_of t) (λ image. (slot : ℕ) × (h : Header) × (header_in image slot ≡ Some h) × (h.id ≡ id)) → AreIdsRead (ids ++ id ∷ []) (counts_of s) (counts_of t)
ids_and_one s t ids id are told = record {
  each = λ i below now holds image was. ⊎_elim
      (λ (early : i < length ids).
      let old = are.each i early now holds image was in
      (old.0, old.1, old.2, old.3 ∙ sym (get_or_append_left ids (id ∷ []) 0 i early)))
      (λ (late : length ids ≤ i).
      let this = told now holds image was in
      let last : i ≡ length ids = omega (arith, below, late, length-append ids (id ∷ [])) in
      let none_before : i - length ids ≡ 0 = omega (arith, last) in
      (this.0, this.1, this.2, this.3 ∙ sym (get_or-append_right ids (id ∷ []) (length ids) i 0 refl late ∙ ap (λ (k : ℕ). get_or (id ∷ []) k 0) none_before)))
      (cases_lt i (length ids));
}

module _ (s m t : BayState) {early : ℕ → Type 0} (n : ℕ) (ids : List ℕ) (first : Runs early Same s m) (next : Runs (IsSlot n) Same m t) where
  -- the ids after one look more
  pub one_more_id : (p : Probe) → AreIdsRead ids (counts_of s) (counts_of m) → IsShown n p (counts_of m) (counts_of t) → AreIdsRead (ids ++ ids_of p) (counts_of s) (counts_of t)
  one_more_id probe.Absent are is = subst (λ (l : List ℕ). AreIdsRead l (counts_of s) (counts_of t)) (sym (append-nil ids)) (ids_later s m t next ids are)
  one_more_id (probe.Unread size) are is = subst (λ (l : List ℕ). AreIdsRead l (counts_of s) (counts_of t)) (sym (append-nil ids)) (ids_later s m t next ids are)
  one_more_id (probe.Read size None) are is = subst (λ (l : List ℕ). AreIdsRead l (counts_of s) (counts_of t)) (sym (append-nil ids)) (ids_later s m t next ids are)
  one_more_id (probe.Read size (Some id)) are is =
      let shown = shown_before s m t first n (probe.Read size (Some id)) next is in
      ids_and_one s t ids id (ids_later s m t next ids are)
      (λ now holds image was. let found = some_header (header_in image n) id (shown.1 now holds image was) in (n, found.0, found.1, found.2))

  has_one : (p : Probe) → IsShown n p (counts_of s) (counts_of t) → (Rose (s.faults n) (t.faults n) → ⊥)
      → ToldByCounts (counts_of s) (counts_of t) (λ image. ForSome (header_in image n) (λ h. Contains (ids ++ ids_of p) h.id))
  has_one probe.Absent is still = absurd (still is)
  has_one (probe.Unread size) is still = absurd (still is.1)
  has_one (probe.Read size None) is still = λ now holds image was h there.
      absurd (none-some h.id (sym (is.1 now holds image was) ∙ ap (λ (o : Option Header). option_map (λ (g : Header). g.id) o) there))
  has_one (probe.Read size (Some id)) is still = λ now holds image was h there.
      let same : id ≡ h.id = same_Some id h.id (sym (is.1 now holds image was) ∙ ap (λ (o : Option Header). option_map (λ (g : Header). g.id) o) there) in
      Contains-append_right ids (id ∷ []) h.id (subst (λ (x : ℕ). Contains (id ∷ []) x) same (0, omega arith, refl))

  -- all that was read after one look more
  pub one_more_read : (p : Probe) → AttachesOnly n m t → AreAllRead n ids (counts_of s) (counts_of m) → IsShown n p (counts_of m) (counts_of t)
      → AreAllRead (n + 1) (ids ++ ids_of p) (counts_of s) (counts_of t)
  one_more_read p others are is = record {
    each = λ slot size below attached still. ⊎_elim
        (λ (before : slot < n).
        (all_more_ids s t n ids (ids_of p) (all_later s m t next n ids (λ k lt. others.others k (λ e. absurd (omega (arith, e, lt)))) are)).each slot size before attached still)
        (λ (late : n ≤ slot).
        let last : n ≡ slot = omega (arith, below, late) in
        subst (λ (k : ℕ). (Rose (s.faults k) (t.faults k) → ⊥) → ToldByCounts (counts_of s) (counts_of t) (λ image. ForSome (header_in image k) (λ h. Contains (ids ++ ids_of p) h.id)))
        last (has_one p (shown_before s m t first n p next is)) still)
        (cases_lt slot n);
  }

-- nothing was read yet
pub none_read : (s : BayState) → AreIdsRead [] (counts_of s) (counts_of s)
none_read s = record { each = λ i below. absurd (omega arith) }

no_header : (o : Option Header) → option_map (λ (h : Header). h.id) o ≡ None → o ≡ None
no_header None is = refl
no_header (Some h) is = absurd (none-some h.id (sym is))

-- a disk that can be given to a new group had no open header
pub usable_free : (s t : BayState) (slot units : ℕ) (p : Probe) → IsUsableProbe p units → IsShown slot p (counts_of s) (counts_of t) → ToldByCounts (counts_of s) (counts_of t) (λ image. header_in image slot ≡ None)
usable_free s t slot units p usable shown =
    let there = subst (λ (q : Probe). IsShown slot q (counts_of s) (counts_of t)) usable.free shown in
    λ now holds image was. no_header (header_in image slot) (there.1 now holds image was)

-- it is attached, with the size that was shown
pub usable_size : (s t : BayState) (slot units : ℕ) (p : Probe) → IsUsableProbe p units → IsShown slot p (counts_of s) (counts_of t) → t.attached slot ≡ Some (size_shown p)
usable_size s t slot units p usable shown =
    (subst (λ (q : Probe). IsShown slot q (counts_of s) (counts_of t)) usable.free shown).0 ∙ sym (ap (λ (q : Probe). Some (size_shown q)) usable.free)
