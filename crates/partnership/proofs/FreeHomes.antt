-- The homes that are chosen for an extent are runs of free units, on different disks.
use Rattle.std.proofs.Common.{◌≡◌, ℕ, ◌+◌, ◌-◌, ◌<◌, ◌≤◌, Bool, true, false, cond, not, ◌&&◌, ◌||◌, eqb, leb, List, [], ◌∷◌, length, filter, refl, sym, ap, subst, ◌∙◌, Option, Some, None, arith, inl, inr}
use Rattle.std.specs.Prelude.{find, slice_set}
use Rattle.std.specs.List.{cons_option, range_with_len, slice_get}
use Rattle.std.specs.Option.{is_some, option_and_then, option_map}
use Rattle.std.proofs.lemmas.Bool.{and_parts, eq-eqb, leb-true, true≢false}
use Rattle.std.proofs.lemmas.List.{get_or-set_other, length-set}
use Rattle.std.proofs.lemmas.Option.{none-some, slice_get_within, slice_get_read, get_or_from_slice_get}
use Rattle.asm_formats.specs.Among.{IsAmong}
use Rattle.asm_formats.proofs.Among.{among_filter}
use Rattle.asm_formats.specs.Items.{Homes}
use Rattle.asm_formats.specs.Status.{Entry, ascends_from}
use Rattle.allocator.proofs.asm_base.Exact.{some_is}
use Rattle.asm_placement.specs.DiskSets.{numbers}
use Rattle.asm_placement.specs.Modes.{is_target}
use Rattle.allocator.specs.UnitMaps.{UnitMap, used_of, total_of, with_run}
use Rattle.partnership.specs.Candidates.{Candidate, candidate, candidate_at, candidates, lowest, is_free_from, is_less_full, earlier_candidate, candidate_tried_first, among, is_disk_in_set, is_outside, may_be_first_candidate, with_others, homes, candidate_home, three, chosen_homes}
use Rattle.partnership.specs.Steps.{second_of, third_of, after_second}
use Rattle.partnership.specs.Rows.{home_used, homes_used}
use Rattle.partnership.proofs.Choices.{others}

-- ---- what is found

found_is : (test : ℕ → Bool) (xs : List ℕ) (u : ℕ) → find test xs ≡ Some u → test u ≡ true
found_is test [] u e = absurd (none-some u e)
found_is test (x ∷ xs) u e = by (test x) refl e (found_is test xs u)
  where
    by : (b : Bool) → test x ≡ b → cond b (Some x) (find test xs) ≡ Some u → (find test xs ≡ Some u → test u ≡ true) → test u ≡ true
    by true t is later = ap test (sym (some_is x u is)) ∙ t
    by false t is later = later is

tried_among : (cs : List Candidate) (c : Candidate) → candidate_tried_first cs ≡ Some c → IsAmong cs c
tried_among [] c e = absurd (none-some c e)
tried_among (x ∷ cs) c e = by (candidate_tried_first cs) refl e (tried_among cs)
  where
    pick : (best : Candidate) → IsAmong cs best → (b : Bool) → cond b (Some best) (Some x) ≡ Some c → IsAmong (x ∷ cs) c
    pick best there true is = inr (subst (λ (d : Candidate). IsAmong cs d) (some_is best c is) there)
    pick best there false is = inl (sym (some_is x c is))

    by : (o : Option Candidate) → candidate_tried_first cs ≡ o → earlier_candidate x o ≡ Some c → ((d : Candidate) → candidate_tried_first cs ≡ Some d → IsAmong cs d) → IsAmong (x ∷ cs) c
    by None is e later = inl (sym (some_is x c e))
    by (Some best) is e later = pick best (later best is) (is_less_full best x) e

passes : {A : Type 0} (test : A → Bool) (xs : List A) (x : A) → IsAmong (filter test xs) x → test x ≡ true
passes test [] x h = absurd h
passes {A} test (y ∷ xs) x h = by (test y) refl h (passes test xs x)
  where
    by : (b : Bool) → test y ≡ b → IsAmong (cond b (y ∷ filter test xs) (filter test xs)) x → (IsAmong (filter test xs) x → test x ≡ true) → test x ≡ true
    by true t (inl same) later = ap test same ∙ t
    by true t (inr h) later = later h
    by false t h later = later h

-- ---- a disk that may take a copy

-- its home is a run of n free units in these maps
record IsFreeOn (n : ℕ) (ms : List UnitMap) (c : Candidate) : Type 0 where
  pub map : UnitMap
  pub unit : ℕ
  pub there : slice_get ms c.entry.number ≡ Some map
  pub free : is_free_from map n unit ≡ true
  pub home : c.home ≡ Some (record { disk = c.entry.number; unit = unit })

abbrev made : Entry → UnitMap → Bool → Option ℕ → Option Candidate
made e m t o = cond (t && is_some o) (Some (record { entry = e; used = used_of m; total = total_of m; home = option_map (λ u. record { disk = e.number; unit = u }) o })) None

of_made : (n : ℕ) (e : Entry) (ms : List UnitMap) (m : UnitMap) (t : Bool) (o : Option ℕ) (c : Candidate) → slice_get ms e.number ≡ Some m → ((u : ℕ) → o ≡ Some u → is_free_from m n u ≡ true) → made e m t o ≡ Some c
    → (c.entry ≡ e) × IsFreeOn n ms c
of_made n e ms m true (Some u) c there free is =
    subst (λ (d : Candidate). (d.entry ≡ e) × IsFreeOn n ms d) (some_is (record { entry = e; used = used_of m; total = total_of m; home = Some (record { disk = e.number; unit = u }) }) c is)
    (refl, record { map = m; unit = u; there = there; free = free u refl; home = refl })
of_made n e ms m true None c there free is = absurd (none-some c is)
of_made n e ms m false o c there free is = absurd (none-some c is)

of_candidate : (n : ℕ) (e : Entry) (ms : List UnitMap) (m : UnitMap) (c : Candidate) → slice_get ms e.number ≡ Some m → candidate n e m ≡ Some c → (c.entry ≡ e) × IsFreeOn n ms c
unfolding candidate lowest
of_candidate n e ms m c there is = of_made n e ms m (is_target e) (lowest n m) c there (λ u found. found_is (is_free_from m n) (range_with_len m.first (m.units + 1 - (m.first + n))) u found) is

of_disk : (n : ℕ) (e : Entry) (ms : List UnitMap) (c : Candidate) → candidate_at n e ms ≡ Some c → (c.entry ≡ e) × IsFreeOn n ms c
unfolding candidate_at
of_disk n e ms c is = by (slice_get ms e.number) refl is
  where
    by : (o : Option UnitMap) → slice_get ms e.number ≡ o → option_and_then (candidate n e) o ≡ Some c → (c.entry ≡ e) × IsFreeOn n ms c
    by None there is = absurd (none-some c is)
    by (Some m) there is = of_candidate n e ms m c there is

of_disks : (n : ℕ) (es : List Entry) (ms : List UnitMap) (c : Candidate) → IsAmong (candidates n es ms) c → IsAmong es c.entry × IsFreeOn n ms c
of_disks n [] ms c h = absurd h
of_disks n (e ∷ es) ms c h = by (candidate_at n e ms) refl h (of_disks n es ms c)
  where
    more : IsAmong es c.entry × IsFreeOn n ms c → IsAmong (e ∷ es) c.entry × IsFreeOn n ms c
    more rest = (inr rest.0, rest.1)

    by : (o : Option Candidate) → candidate_at n e ms ≡ o → IsAmong (cons_option o (candidates n es ms)) c → (IsAmong (candidates n es ms) c → IsAmong es c.entry × IsFreeOn n ms c) → IsAmong (e ∷ es) c.entry × IsFreeOn n ms c
    by None is h later = more (later h)
    by (Some x) is (inr h) later = more (later h)
    by (Some x) is (inl same) later =
        let one = of_disk n e ms c (is ∙ ap (λ (d : Candidate). Some d) (sym same)) in
        (inl one.0, one.1)

-- ---- disks of different failure groups

number_least : (es : List Entry) (least : ℕ) (e : Entry) → ascends_from least (numbers es) ≡ true → IsAmong es e → least ≤ e.number
number_least [] least e up h = absurd h
number_least (x ∷ es) least e up (inl same) = leb-true least e.number (ap (λ (y : Entry). leb least y.number) same ∙ (and_parts (leb least x.number) (ascends_from (x.number + 1) (numbers es)) up).0)
number_least (x ∷ es) least e up (inr h) =
    let p = and_parts (leb least x.number) (ascends_from (x.number + 1) (numbers es)) up in
    omega (arith, number_least es (x.number + 1) e p.1 h, leb-true least x.number p.0)

one_entry : (es : List Entry) (least : ℕ) (e f : Entry) → ascends_from least (numbers es) ≡ true → IsAmong es e → IsAmong es f → e.number ≡ f.number → e ≡ f
one_entry [] least e f up a b same = absurd a
one_entry (x ∷ es) least e f up (inl a) (inl b) same = a ∙ sym b
one_entry (x ∷ es) least e f up (inl a) (inr b) same =
    let p = and_parts (leb least x.number) (ascends_from (x.number + 1) (numbers es)) up in
    absurd (omega (arith, number_least es (x.number + 1) f p.1 b, ap (λ (y : Entry). y.number) a, same))
one_entry (x ∷ es) least e f up (inr a) (inl b) same =
    let p = and_parts (leb least x.number) (ascends_from (x.number + 1) (numbers es)) up in
    absurd (omega (arith, number_least es (x.number + 1) e p.1 a, ap (λ (y : Entry). y.number) b, same))
one_entry (x ∷ es) least e f up (inr a) (inr b) same =
    one_entry es (x.number + 1) e f (and_parts (leb least x.number) (ascends_from (x.number + 1) (numbers es)) up).1 a b same

numbers_apart : (es : List Entry) (e f : Entry) → ascends_from 0 (numbers es) ≡ true → IsAmong es e → IsAmong es f → (e.failgroup ≡ f.failgroup → ⊥) → e.number ≡ f.number → ⊥
numbers_apart es e f up a b apart same = apart (ap (λ (y : Entry). y.failgroup) (one_entry es 0 e f up a b same))

or_true : (b : Bool) → (b || true) ≡ true
or_true true = refl
or_true false = refl

outside_first : (g h : ℕ) (b : Bool) → not (eqb g h || b) ≡ true → h ≡ g → ⊥
outside_first g h b e same = true≢false (sym e ∙ rw (eq-eqb g h (sym same)) refl)

outside_second : (g k h : ℕ) (b : Bool) → not (eqb g h || (eqb k h || b)) ≡ true → h ≡ k → ⊥
outside_second g k h b e same = true≢false (sym e ∙ rw (eq-eqb k h (sym same)) (ap not (or_true (eqb g h))))

-- the disk of the second copy, and that of the third
second_from : (cs : List Candidate) (g copies : ℕ) (s : Candidate) → second_of cs g copies ≡ Some s → IsAmong cs s × (s.entry.failgroup ≡ g → ⊥)
unfolding second_of
second_from cs g copies s e = by (leb copies 1) e
  where
    by : (b : Bool) → cond b None (candidate_tried_first (among (is_outside (g ∷ [])) cs)) ≡ Some s → IsAmong cs s × (s.entry.failgroup ≡ g → ⊥)
    by true is = absurd (none-some s is)
    by false is =
        let there = tried_among (among (is_outside (g ∷ [])) cs) s is in
        (among_filter (λ (c : Candidate). is_outside (g ∷ []) c.entry) cs s there, outside_first g s.entry.failgroup false (passes (λ (c : Candidate). is_outside (g ∷ []) c.entry) cs s there))

third_from : (cs : List Candidate) (g copies : ℕ) (s t : Candidate) → third_of cs g copies (Some s) ≡ Some t → IsAmong cs t × ((t.entry.failgroup ≡ s.entry.failgroup → ⊥) × (t.entry.failgroup ≡ g → ⊥))
unfolding third_of
third_from cs g copies s t e = by (leb copies 2) e
  where
    out : List ℕ
    out = s.entry.failgroup ∷ g ∷ []

    by : (b : Bool) → cond b None (after_second cs g s) ≡ Some t → IsAmong cs t × ((t.entry.failgroup ≡ s.entry.failgroup → ⊥) × (t.entry.failgroup ≡ g → ⊥))
    by true is = absurd (none-some t is)
    by false is =
        let there = tried_among (among (is_outside out) cs) t is in
        let passed = passes (λ (c : Candidate). is_outside out c.entry) cs t there in
        (among_filter (λ (c : Candidate). is_outside out c.entry) cs t there, (outside_first s.entry.failgroup t.entry.failgroup (eqb g t.entry.failgroup || false) passed, outside_second s.entry.failgroup g t.entry.failgroup false passed))

third_none : (cs : List Candidate) (g copies : ℕ) → third_of cs g copies None ≡ None
unfolding third_of
third_none cs g copies = by (leb copies 2)
  where
    by : (b : Bool) → cond b None (option_and_then (after_second cs g) None) ≡ None
    by true = refl
    by false = refl

-- ---- homes are used one after the other

other_map : (ms : List UnitMap) (d c : ℕ) (old new : UnitMap) → (d ≡ c → ⊥) → slice_get ms d ≡ Some old → slice_get (slice_set ms c new) d ≡ Some old
other_map ms d c old new apart e =
    let within = slice_get_within ms d old e in
    let long : length ms ≡ length (slice_set ms c new) = sym (length-set ms c new) in
    slice_get_read (slice_set ms c new) (length ms) d old long within (sym (get_or-set_other ms c d new old apart ∙ get_or_from_slice_get ms d old old e))

-- the maps once a candidate's home is used, in which those on other disks are free as before
record Used (n : ℕ) (ms : List UnitMap) (c : Candidate) : Type 0 where
  pub next : List UnitMap
  pub used : home_used n ms c.home ≡ Some next
  pub rest : (d : Candidate) → (d.entry.number ≡ c.entry.number → ⊥) → IsFreeOn n ms d → IsFreeOn n next d

used_one : (n : ℕ) (ms : List UnitMap) (c : Candidate) → IsFreeOn n ms c → Used n ms c
used_one n ms c free = record {
  next = slice_set ms c.entry.number (with_run free.map free.unit n true);
  used = rw (free.home, free.there, free.free) refl;
  rest = λ d apart other. record {
    map = other.map;
    unit = other.unit;
    there = other_map ms d.entry.number c.entry.number other.map (with_run free.map free.unit n true) apart other.there;
    free = other.free;
    home = other.home;
  };
}

abbrev CanBeUsed : ℕ → List UnitMap → Homes → Type 0
CanBeUsed n ms hs = (next : List UnitMap) × (homes_used n ms hs ≡ Some next)

all_used : (n : ℕ) (es : List Entry) (ms : List UnitMap) (copies : ℕ) (f : Candidate) (second third : Option Candidate) → ascends_from 0 (numbers es) ≡ true → IsAmong (candidates n es ms) f
    → second_of (among (is_disk_in_set f.entry.partners) (candidates n es ms)) f.entry.failgroup copies ≡ second
    → third_of (among (is_disk_in_set f.entry.partners) (candidates n es ms)) f.entry.failgroup copies second ≡ third
    → CanBeUsed n ms (f.home ∷ option_and_then candidate_home second ∷ option_and_then candidate_home third ∷ [])
all_used n es ms copies f None third up there is_second is_third =
    let one = used_one n ms f (of_disks n es ms f there).1 in
    let none : third ≡ None = sym is_third ∙ third_none (among (is_disk_in_set f.entry.partners) (candidates n es ms)) f.entry.failgroup copies in
    (one.next, rw (none, one.used) refl)
all_used n es ms copies f (Some s) None up there is_second is_third =
    let cs = candidates n es ms in
    let first = of_disks n es ms f there in
    let from = second_from (among (is_disk_in_set f.entry.partners) cs) f.entry.failgroup copies s is_second in
    let second = of_disks n es ms s (among_filter (λ (c : Candidate). is_disk_in_set f.entry.partners c.entry) cs s from.0) in
    let one = used_one n ms f first.1 in
    let two = used_one n one.next s (one.rest s (numbers_apart es s.entry f.entry up second.0 first.0 from.1) second.1) in
    (two.next, rw (one.used, two.used) refl)
all_used n es ms copies f (Some s) (Some t) up there is_second is_third =
    let cs = candidates n es ms in
    let first = of_disks n es ms f there in
    let from = second_from (among (is_disk_in_set f.entry.partners) cs) f.entry.failgroup copies s is_second in
    let second = of_disks n es ms s (among_filter (λ (c : Candidate). is_disk_in_set f.entry.partners c.entry) cs s from.0) in
    let last = third_from (among (is_disk_in_set f.entry.partners) cs) f.entry.failgroup copies s t is_third in
    let third = of_disks n es ms t (among_filter (λ (c : Candidate). is_disk_in_set f.entry.partners c.entry) cs t last.0) in
    let one = used_one n ms f first.1 in
    let two = used_one n one.next s (one.rest s (numbers_apart es s.entry f.entry up second.0 first.0 from.1) second.1) in
    let three = used_one n two.next t (two.rest t (numbers_apart es t.entry s.entry up third.0 second.0 last.1.0) (one.rest t (numbers_apart es t.entry f.entry up third.0 first.0 last.1.1) third.1)) in
    (three.next, rw (one.used, two.used, three.used) refl)

-- the homes that are chosen by some maps can be used in them
pub chosen_free : (n : ℕ) (es : List Entry) (ms : List UnitMap) (copies : ℕ) (hs : Homes) → ascends_from 0 (numbers es) ≡ true → chosen_homes (candidates n es ms) copies ≡ Some hs → CanBeUsed n ms hs
chosen_free n es ms copies hs up e = by (candidate_tried_first (among (may_be_first_candidate cs copies) cs)) refl e
  where
    cs : List Candidate
    cs = candidates n es ms

    by : (o : Option Candidate) → candidate_tried_first (among (may_be_first_candidate cs copies) cs) ≡ o → option_map (λ ds. three (homes ds)) (option_map (with_others cs copies) o) ≡ Some hs → CanBeUsed n ms hs
    by None is e = absurd (none-some hs e)
    by (Some f) is e =
        let there = among_filter (λ (c : Candidate). may_be_first_candidate cs copies c.entry) cs f (tried_among (among (may_be_first_candidate cs copies) cs) f is) in
        let same = sym (others (among (is_disk_in_set f.entry.partners) cs) f copies) ∙ some_is (three (homes (with_others cs copies f))) hs e in
        subst (λ (l : Homes). CanBeUsed n ms l) same
        (all_used n es ms copies f (second_of (among (is_disk_in_set f.entry.partners) cs) f.entry.failgroup copies) (third_of (among (is_disk_in_set f.entry.partners) cs) f.entry.failgroup copies (second_of (among (is_disk_in_set f.entry.partners) cs) f.entry.failgroup copies)) up there refl refl)
