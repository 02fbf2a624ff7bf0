-- A commit on one copy more.
use Rattle.std.proofs.Common.{◌≡◌, ◌≢◌, ◌⊎◌, inl, inr, ⊎_elim, ℕ, zero, suc, ◌+◌, ◌-◌, ◌*◌, ◌/◌, ◌%◌, ◌^◌, ◌<◌, ◌≤◌, Bool, true, false, List, [], ◌∷◌, length, map, take, drop, get_or, refl, sym, ap, subst, ◌∙◌, arith}
use Rattle.std.specs.Prelude.{◌||◌, ◌==◌, Result, Ok, Err}
use Rattle.std.proofs.lemmas.Bool.{true≢false, eq-eqb, eqb-true, ne_eqb}
use Rattle.std.proofs.lemmas.List.{take_all}
use Rattle.std.proofs.Math.Nat.{zero-div}
use Rattle.bay.specs.Image.{Image, ChangesOnly}
use Rattle.bay.specs.State.{BayState, KeepsAttached, IsSlot}
use Rattle.bay.specs.Counts.{Rose}
use Rattle.bay.specs.Moments.{Runs, NowOnly, LeavesOnly}
use Rattle.bay.proofs.Calls.{stops, on_more, widened, started, attached-trans, leaves_only, leaves_on, leaves_begin, now_only, now_of}
use Rattle.bay.proofs.Images.{changes-within, changes-same, same-refl}
use Rattle.asm_group.specs.Names.{Bytes}
use Rattle.asm_base.specs.declared.block.Block.{Block}
use Rattle.asm_formats.specs.Among.{IsAmong}
use Rattle.asm_formats.specs.Pages.{with_images}
use Rattle.asm_formats.specs.Sets.{has_bit}
use Rattle.change_directory.specs.declared.copy.DirCopy.{DirCopy}
use Rattle.change_directory.specs.Changes.{content_in}
use Rattle.change_directory.specs.Logs.{AreLogsSettled}
use Rattle.asm_base.specs.Blocks.{image_of_page}
use Rattle.change_directory.specs.StoreLaws.{IsShaped, HasRegion, SameRegion, SameCopy, RegionOf, content_with}
use Rattle.change_directory.proofs.Settled.{logs_off}
use Rattle.change_directory.proofs.Usable.{still_copy}
use Rattle.directory_store.specs.Commits.{CommitsPages, CommitsOne, HasTaken}
use Rattle.directory_store.specs.Copies.{AllLogsSettled, AreCopiesApart, AreKept, AreNamedCopies, AreSettledBut, Earlier, HasOnlyFailedCopies, HasEither, HaveEither, IsCopyApart, IsKept, IsSettled, IsSlotOfCopy, LogsSettledBut, MayPutOn, RegionsOf, WritesFew, calls_for, due_of}
use Rattle.directory_store.specs.declared.due.Due.{Due}
use Rattle.directory_store.proofs.CopyLaws.{region_is_same}
use Rattle.directory_store.proofs.Steps.{both_run, shaped}

-- ---- claims

-- two claims over the same calls
pub leaves_both : {P Q R : Image → Type 0} {a b : BayState} → ((x : Image) → P x → Q x → R x) → LeavesOnly a b P → LeavesOnly a b Q → LeavesOnly a b R
leaves_both {P} {Q} {R} {a} {b} both p q = record {
  later = p.later;
  ended = p.ended;
  each = λ m image low high left. both image (p.each m image low high left) (q.each m image low high left);
}

pub now_both : {P Q R : Image → Type 0} {a : BayState} → ((x : Image) → P x → Q x → R x) → NowOnly a P → NowOnly a Q → NowOnly a R
now_both {P} {Q} {R} {a} both p q = record { now = λ image left. both image (p.now image left) (q.now image left) }

-- ---- elsewhere

-- a change of other slots leaves a copy
pub copy_stays : (copy : DirCopy) (region : ℕ → ℕ → Type 0) (x y : Image) → IsShaped copy → HasRegion copy x → ((k : ℕ) → region copy.slot k → ⊥) → ChangesOnly region x y → SameCopy copy x y
copy_stays copy region x y shape sized apart step =
    let same : SameRegion copy x y = record { size = step.size copy.slot; bytes = λ k low high. step.byte copy.slot k (apart k) } in
    region_is_same copy x y shape sized same

off_region : (copy other : DirCopy) → copy.slot ≢ other.slot → (k : ℕ) → RegionOf other copy.slot k → ⊥
off_region copy other apart k inside = apart inside.0

off_regions : (copy : DirCopy) (others : List DirCopy) → IsCopyApart copy others → (k : ℕ) → RegionsOf others copy.slot k → ⊥
off_regions copy others apart k inside = (apart inside.0 inside.1).0 inside.2.0

-- ---- sets

-- a number that isn't in the set with one more isn't in the set
pub still_out : (n k : ℕ) (b : Bool) → ((k == n) || b) ≡ false → b ≡ false
still_out n k b out = elim (k == n) as (λ (t : Bool). (t || b) ≡ false → b ≡ false) [ true ↦ λ e. absurd (true≢false e) | false ↦ λ e. e ] out

in_or_one : (n k : ℕ) (t b : Bool) → (t || b) ≡ true → (t ≡ true) ⊎ (b ≡ true)
in_or_one n k true b e = inl refl
in_or_one n k false b e = inr e

pub no_bit : (k : ℕ) → has_bit 0 k ≡ false
unfolding has_bit
no_bit k = ne_eqb (0 / 2 ^ k % 2) 1 (λ e. omega (arith, e, ap (λ (n : ℕ). n % 2) (zero-div (2 ^ k))))

-- ---- what commits on several copies do

-- no copies
pub no_commits : (dues : List Due) (number : ℕ) (pages : List (ℕ × Block)) (failed : ℕ) (s : BayState) → ((k : ℕ) → k < 64 → has_bit failed k ≡ false) → CommitsPages [] dues number pages failed s s
no_commits dues number pages failed s none = record {
  attached = record { same = λ slot. refl };
  calls = omega arith;
  written = λ c among. absurd among;
  runs = started (λ x. changes-same (RegionsOf []) x x (same-refl x));
  moments = λ before page less now. leaves_begin (record { now = λ x left c among. absurd among });
  done = λ before page less now. record { now = λ x left c among. absurd among };
  logs = λ c among. absurd among;
  failed_alone = λ k small is. absurd (true≢false (sym is ∙ none k small));
}

module _ (first : DirCopy) (rest : List DirCopy) (dues : List Due) (number : ℕ) (pages : List (ℕ × Block)) (s t u : BayState)
    (named : AreNamedCopies (first ∷ rest) dues s) (apart : AreCopiesApart (first ∷ rest)) {T E : Type 0} (result : Result T E) (one : CommitsOne result first (due_of dues first.slot) number pages s t) where
  run : Runs (IsSlot first.slot) (ChangesOnly (RegionOf first)) s t
  run = one.call.calls.runs

  shape_of : (c : DirCopy) → IsAmong (first ∷ rest) c → IsShaped c
  shape_of c among = shaped (named c among).copy_is

  -- the rest are kept while the first takes it
  stays_kept : (before : ℕ) (page : ℕ → Bytes) (x y : Image) → AreKept (first ∷ rest) dues before page x → ChangesOnly (RegionOf first) x y → AreKept rest dues before page y
  stays_kept before page x y kept step c among =
      let here = kept c (inr among) in
      let same = copy_stays c (RegionOf first) x y (shape_of c (inr among)) here.content.pages.sized (off_region c first (λ e. (apart.0 c among).0 (sym e))) step in
      record { content = same.has_content before page here.content; due_are = same.has_due (due_of dues c.slot) here.due_are }

  pub rest_kept : (before : ℕ) (page : ℕ → Bytes) → NowOnly s (AreKept (first ∷ rest) dues before page) → NowOnly t (AreKept rest dues before page)
  rest_kept before page now = now_only {P = AreKept (first ∷ rest) dues before page} {Q = AreKept rest dues before page} (stays_kept before page) (stops run) now

  pub first_kept : (before : ℕ) (page : ℕ → Bytes) → NowOnly s (AreKept (first ∷ rest) dues before page) → NowOnly s (IsKept first (due_of dues first.slot) before page)
  first_kept before page now = record { now = λ x left. now.now x left first (inl refl) }

  -- so are their log slots settled
  pub rest_logs : AllLogsSettled (first ∷ rest) s → AllLogsSettled rest t
  rest_logs logs c among = logs_off c (off_region c first (λ e. (apart.0 c among).0 (sym e))) run (logs c (inr among))

  pub rest_named : AreNamedCopies rest dues t
  rest_named c among =
      let is = named c (inr among) in
      record { copy_is = still_copy is.copy_is one.call.calls.attached; number = is.number; due = is.due }

  module _ (failed_rest : ℕ) (others : CommitsPages rest dues number pages failed_rest t u) where
    pub all_attached : KeepsAttached s u
    all_attached = attached-trans one.call.calls.attached others.attached

    pub all_runs : Runs (IsSlotOfCopy (first ∷ rest)) (ChangesOnly (RegionsOf (first ∷ rest))) s u
    all_runs = both_run
        (on_more (λ slot is. (first, inl refl, is)) (widened (λ x y h. changes-within (RegionsOf (first ∷ rest)) (RegionOf first) x y (λ slot k inside. (first, inl refl, inside)) h) run))
        (on_more (λ slot is. (is.0, inr is.1, is.2)) (widened (λ x y h. changes-within (RegionsOf (first ∷ rest)) (RegionsOf rest) x y (λ slot k inside. (inside.0, inr inside.1, inside.2)) h) others.runs))

    pub all_calls : u.calls ≤ s.calls + calls_for (first ∷ rest) dues (length pages)
    all_calls = omega (arith, one.call.calls.calls, others.calls)

    pub all_written : WritesFew (first ∷ rest) dues (length pages) s u
    all_written c (inl same) = subst (λ (d : DirCopy). u.written d.slot ≤ s.written d.slot + 2 * d.sector + (2 * length pages + 1) * 4096 + length (due_of dues d.slot) * 4096) (sym same)
        (omega (arith, one.call.calls.written first.slot, others.runs.other_written first.slot (λ is. (apart.0 is.0 is.1).0 is.2)))
    all_written c (inr among) = omega (arith, others.written c among, run.other_written c.slot (λ is. (apart.0 c among).0 (sym is)))

    module _ (before : ℕ) (page : ℕ → Bytes) (less : before < number) (now : NowOnly s (AreKept (first ∷ rest) dues before page)) where
      first_moments : LeavesOnly s t (HasEither first before number page (with_images (map image_of_page pages) page))
      first_moments = one.moments before page less (first_kept before page now)

      first_sized : NowOnly t (HasRegion first)
      first_sized = now_only {P = AreKept (first ∷ rest) dues before page} {Q = HasRegion first}
          (λ x y kept step. omega (arith, (kept first (inl refl)).content.pages.sized, step.size first.slot)) (stops run) now

      rest_before : LeavesOnly s t (λ x. (c : DirCopy) → IsAmong rest c → content_in c x ≡ content_with c before page)
      rest_before = leaves_only {P = AreKept (first ∷ rest) dues before page} {Q = λ x. (c : DirCopy) → IsAmong rest c → content_in c x ≡ content_with c before page}
          (λ x y kept step c among. (stays_kept before page x y kept step c among).content.content) run now

      each_either : (x : Image) → HasEither first before number page (with_images (map image_of_page pages) page) x
          → HaveEither rest before number page (with_images (map image_of_page pages) page) x → HaveEither (first ∷ rest) before number page (with_images (map image_of_page pages) page) x
      each_either x here there c (inl same) = subst (λ (d : DirCopy). HasEither d before number page (with_images (map image_of_page pages) page) x) (sym same) here
      each_either x here there c (inr among) = there c among

      early : LeavesOnly s t (HaveEither (first ∷ rest) before number page (with_images (map image_of_page pages) page))
      early = leaves_both
          {P = HasEither first before number page (with_images (map image_of_page pages) page)} {Q = λ x. (c : DirCopy) → IsAmong rest c → content_in c x ≡ content_with c before page}
          {R = HaveEither (first ∷ rest) before number page (with_images (map image_of_page pages) page)}
          (λ x here there. each_either x here (λ c among. inl (there c among))) first_moments rest_before

      first_same : (x y : Image) → HasRegion first x → ChangesOnly (RegionsOf rest) x y → SameCopy first x y
      first_same x y sized step = copy_stays first (RegionsOf rest) x y (shape_of first (inl refl)) sized (off_regions first rest apart.0) step

      first_later : LeavesOnly t u (HasEither first before number page (with_images (map image_of_page pages) page))
      first_later = leaves_only
          {P = λ x. HasRegion first x × HasEither first before number page (with_images (map image_of_page pages) page) x}
          {Q = HasEither first before number page (with_images (map image_of_page pages) page)}
          (λ x y has step. ⊎_elim (λ old. inl ((first_same x y has.0 step).content ∙ old)) (λ new. inr ((first_same x y has.0 step).content ∙ new)) has.1) others.runs
          (now_both {P = HasRegion first} {Q = HasEither first before number page (with_images (map image_of_page pages) page)} (λ x a b. (a, b)) first_sized (now_of first_moments))

      pub all_moments : LeavesOnly s u (HaveEither (first ∷ rest) before number page (with_images (map image_of_page pages) page))
      all_moments = leaves_on early
          (leaves_both
          {P = HasEither first before number page (with_images (map image_of_page pages) page)} {Q = HaveEither rest before number page (with_images (map image_of_page pages) page)}
          {R = HaveEither (first ∷ rest) before number page (with_images (map image_of_page pages) page)}
          each_either first_later (others.moments before page less (rest_kept before page now)))

      -- the first copy, once it took it
      pub first_settled : NowOnly t (IsSettled first number (with_images (map image_of_page pages) page)) → NowOnly u (IsSettled first number (with_images (map image_of_page pages) page))
      first_settled settled = now_only {P = IsSettled first number (with_images (map image_of_page pages) page)} {Q = IsSettled first number (with_images (map image_of_page pages) page)}
          (λ x y has step. let same = first_same x y has.content.pages.sized step in
          record { content = same.has_content number (with_images (map image_of_page pages) page) has.content; home = same.at_home has.home }) (stops others.runs) settled

      pub rest_settled : NowOnly u (AreSettledBut rest failed_rest number (with_images (map image_of_page pages) page))
      rest_settled = others.done before page less (rest_kept before page now)

    set_first : (failed : ℕ) → ((k : ℕ) → k < 64 → has_bit failed k ≡ ((k == first.number) || has_bit failed_rest k)) → (c : DirCopy) → c ≡ first → has_bit failed c.number ≡ true
    set_first failed bits c same =
        bits c.number (named c (inl same)).number ∙ ap (λ (b : Bool). b || has_bit failed_rest c.number) (eq-eqb c.number first.number (ap (λ (d : DirCopy). d.number) same))

    -- the log slots of those that took it are settled
    all_logs : AreLogsSettled first t → LogsSettledBut (first ∷ rest) failed_rest u
    all_logs here c among out = ⊎_elim
        (λ (same : c ≡ first). subst (λ (d : DirCopy). AreLogsSettled d u) (sym same) (logs_off first (off_regions first rest apart.0) others.runs here))
        (λ (inside : IsAmong rest c). others.logs c inside out) among

    other_logs : (failed : ℕ) → ((k : ℕ) → k < 64 → has_bit failed k ≡ ((k == first.number) || has_bit failed_rest k)) → LogsSettledBut (first ∷ rest) failed u
    other_logs failed bits c among out = ⊎_elim
        (λ (same : c ≡ first). absurd (true≢false (sym (set_first failed bits c same) ∙ out)))
        (λ (inside : IsAmong rest c). others.logs c inside (still_out first.number c.number (has_bit failed_rest c.number) (sym (bits c.number (named c (inr inside)).number) ∙ out))) among

    later_rose : (c : DirCopy) → Rose (t.faults c.slot) (u.faults c.slot) → Rose (s.faults c.slot) (u.faults c.slot)
    later_rose c rose = omega (arith, rose, run.faults c.slot)

    rest_failed : HasOnlyFailedCopies (first ∷ rest) failed_rest s u
    rest_failed k small is =
        let one_of = others.failed_alone k small is in
        (one_of.0, inr one_of.1, one_of.2, later_rose one_of.0 one_of.3)

    -- the first copy took it
    pub one_more : HasTaken first (IsKept first (due_of dues first.slot)) number pages s t → CommitsPages (first ∷ rest) dues number pages failed_rest s u
    one_more taken = record {
      attached = all_attached;
      calls = all_calls;
      written = all_written;
      runs = all_runs;
      moments = all_moments;
      done = λ before page less now. now_both
          {P = IsSettled first number (with_images (map image_of_page pages) page)} {Q = AreSettledBut rest failed_rest number (with_images (map image_of_page pages) page)}
          {R = AreSettledBut (first ∷ rest) failed_rest number (with_images (map image_of_page pages) page)}
          (λ x here there c among out. ⊎_elim (λ (same : c ≡ first). subst (λ (d : DirCopy). IsSettled d number (with_images (map image_of_page pages) page) x) (sym same) here) (λ (inside : IsAmong rest c). there c inside out) among)
          (first_settled before page less now (taken.done before page less (first_kept before page now))) (rest_settled before page less now);
      logs = all_logs taken.logs;
      failed_alone = rest_failed;
    }

    -- the first copy failed
    pub one_failed : (failed : ℕ) → ((k : ℕ) → k < 64 → has_bit failed k ≡ ((k == first.number) || has_bit failed_rest k)) → Rose (s.faults first.slot) (t.faults first.slot)
        → CommitsPages (first ∷ rest) dues number pages failed s u
    one_failed failed bits rose = record {
      attached = all_attached;
      calls = all_calls;
      written = all_written;
      runs = all_runs;
      moments = all_moments;
      done = λ before page less now. record {
        now = λ x left c among out. ⊎_elim
            (λ (same : c ≡ first). absurd (true≢false (sym (set_first failed bits c same) ∙ out)))
            (λ (inside : IsAmong rest c). (rest_settled before page less now).now x left c inside
            (still_out first.number c.number (has_bit failed_rest c.number) (sym (bits c.number (named c (inr inside)).number) ∙ out))) among;
      };
      logs = other_logs failed bits;
      failed_alone = λ k small is. ⊎_elim
          (λ (here : (k == first.number) ≡ true). (first, inl refl, sym (same_number k here), omega (arith, rose, others.runs.faults first.slot)))
          (λ (there : has_bit failed_rest k ≡ true). rest_failed k small there)
          (in_or_one first.number k (k == first.number) (has_bit failed_rest k) (sym (bits k small) ∙ is));
    }
      where
        same_number : (k : ℕ) → (k == first.number) ≡ true → k ≡ first.number
        same_number k is = eqb-true k first.number is

-- ---- the first of several copies

-- what stands for the first of none
abbrev pub no_copy : DirCopy
no_copy = record { number = 0; slot = 0; dir_blocks = 0; sector = 0 }

pub split_first : {A : Type 0} (xs : List A) (d : A) → 1 ≤ length xs → xs ≡ get_or xs 0 d ∷ take (length xs - 1) (drop 1 xs)
split_first [] d some = absurd (omega arith)
split_first (x ∷ xs) d some =
    let n : ℕ = length (x ∷ xs) - 1 in
    let all : take n xs ≡ xs = take_all n xs (omega arith) in
    ap (λ ys. x ∷ ys) (sym all)

pub first_among : {A : Type 0} (xs : List A) (d : A) → 1 ≤ length xs → IsAmong xs (get_or xs 0 d)
first_among [] d some = absurd (omega arith)
first_among (x ∷ xs) d some = inl refl

pub some_of : (n : ℕ) → (n == 0) ≡ false → 1 ≤ n
some_of zero e = absurd (true≢false e)
some_of (suc n) e = omega arith

-- ---- the copies that are split into the first and the rest

module _ {copies : List DirCopy} {first : DirCopy} {rest : List DirCopy} (split : copies ≡ first ∷ rest) where
  pub all_named : {dues : List Due} {s : BayState} → AreNamedCopies copies dues s → AreNamedCopies (first ∷ rest) dues s
  all_named {dues} {s} named = subst (λ (l : List DirCopy). AreNamedCopies l dues s) split named

  pub all_apart : AreCopiesApart copies → AreCopiesApart (first ∷ rest)
  all_apart apart = subst AreCopiesApart split apart

  pub rest_may_put : {number : ℕ} {pages : List (ℕ × Block)} → MayPutOn copies number pages → MayPutOn rest number pages
  rest_may_put {number} {pages} may copy among = subst (λ (l : List DirCopy). MayPutOn l number pages) split may copy (inr among)

  module _ {dues : List Due} {due : List (ℕ × Block)} (due_is : due ≡ due_of dues first.slot) (number : ℕ) (pages : List (ℕ × Block)) {s t : BayState}
      (named : AreNamedCopies copies dues s) (apart : AreCopiesApart copies) {T E : Type 0} where
    one_is : (result : Result T E) → CommitsOne result first due number pages s t → CommitsOne result first (due_of dues first.slot) number pages s t
    one_is result one = subst (λ (d : List (ℕ × Block)). CommitsOne result first d number pages s t) due_is one

    -- what the commits on the rest ask for stands after that on the first
    module _ (result : Result T E) (one : CommitsOne result first due number pages s t) where
      pub named_still : AreNamedCopies rest dues t
      named_still = rest_named first rest dues number pages s t t (all_named named) (all_apart apart) result (one_is result one)

      pub kept_still : Earlier number (λ before page. NowOnly s (AreKept copies dues before page)) → Earlier number (λ before page. NowOnly t (AreKept rest dues before page))
      kept_still was = record {
        before = was.before;
        page = was.page;
        smaller = was.smaller;
        holds = rest_kept first rest dues number pages s t t (all_named named) (all_apart apart) result (one_is result one) was.before was.page
            (subst (λ (l : List DirCopy). NowOnly s (AreKept l dues was.before was.page)) split was.holds);
      }

      pub logs_still : {settled : Bool} → (settled ≡ true → AllLogsSettled copies s) → settled ≡ true → AllLogsSettled rest t
      logs_still logs is = rest_logs first rest dues number pages s t t (all_named named) (all_apart apart) result (one_is result one) (subst (λ (l : List DirCopy). AllLogsSettled l s) split (logs is))

    -- the first copy took it, and then the rest
    pub took_first : {u : BayState} {value : T} {failed : ℕ} → CommitsOne {E = E} (Ok value) first due number pages s t → CommitsPages rest dues number pages failed t u → CommitsPages copies dues number pages failed s u
    took_first {u} {value} {failed} one others =
        let took = one_is (Ok value) one in
        subst (λ (l : List DirCopy). CommitsPages l dues number pages failed s u) (sym split)
        (one_more first rest dues number pages s t u (all_named named) (all_apart apart) (Ok value) took failed others took.call.done)

    -- the first copy failed
    pub missed_first : {u : BayState} {e : E} {failed_rest failed : ℕ} → CommitsOne {T = T} (Err e) first due number pages s t → CommitsPages rest dues number pages failed_rest t u
        → ((k : ℕ) → k < 64 → has_bit failed k ≡ ((k == first.number) || has_bit failed_rest k)) → CommitsPages copies dues number pages failed s u
    missed_first {u} {e} {failed_rest} {failed} one others bits =
        let missed = one_is (Err e) one in
        subst (λ (l : List DirCopy). CommitsPages l dues number pages failed s u) (sym split)
        (one_failed first rest dues number pages s t u (all_named named) (all_apart apart) (Err e) missed failed_rest others failed bits missed.call.cause)
