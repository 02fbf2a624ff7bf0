-- In how many failure groups disks lie.
use Rattle.std.proofs.Common.{◌≡◌, ℕ, suc, ◌+◌, ◌<◌, ◌≤◌, Bool, true, false, cond, not, ◌&&◌, ◌||◌, List, [], ◌∷◌, length, filter, get_or, drop, refl, sym, ap, ◌∙◌, Option, Some, None, arith, eqb}
use Rattle.std.specs.List.{cons_option, list_any, slice_get}
use Rattle.std.specs.Option.{is_some, option_and_then}
use Rattle.std.proofs.lemmas.Bool.{cond_both, eqb-true, eq-eqb, ne_eqb, both_ways, or_parts, or_from}
use Rattle.asm_formats.specs.Status.{Entry}
use Rattle.allocator.specs.UnitMaps.{UnitMap, total_of, used_of}
use Rattle.asm_placement.specs.Modes.{is_target}
use Rattle.asm_placement.specs.DiskSets.{is_among, distinct_failgroups}
use Rattle.partnership.specs.Candidates.{Candidate, candidate, candidate_at, candidates, among, entries, group_count, lowest_home, lowest}
use Rattle.partnership.specs.Steps.{candidate_if, is_new_group, is_candidate_of_failgroup, has_candidate_of_failgroup}
use Rattle.partnership.proofs.Turns.{among_from, none_from}

-- all but a number
abbrev but : ℕ → List ℕ → List ℕ
but g gs = filter (λ h. not (eqb h g)) gs

still_among : (g h : ℕ) (gs : List ℕ) → (g ≡ h → ⊥) → is_among (but g gs) h ≡ is_among gs h
still_among g h [] other = refl
still_among g h (k ∷ gs) other = by (eqb k g) refl (still_among g h gs other)
  where
    by : (b : Bool) → eqb k g ≡ b → is_among (but g gs) h ≡ is_among gs h → is_among (cond (not b) (k ∷ but g gs) (but g gs)) h ≡ (eqb k h || is_among gs h)
    by true is later =
        let same : k ≡ g = eqb-true k g is in
        rw (ne_eqb k h (λ e. other (sym same ∙ e))) later
    by false is later = ap (λ (b : Bool). eqb k h || b) later

none_left : (g : ℕ) (gs : List ℕ) → is_among (but g gs) g ≡ false
none_left g [] = refl
none_left g (k ∷ gs) = by (eqb k g) refl (none_left g gs)
  where
    by : (b : Bool) → eqb k g ≡ b → is_among (but g gs) g ≡ false → is_among (cond (not b) (k ∷ but g gs) (but g gs)) g ≡ false
    by true is later = later
    by false is later = rw is later

none_to_drop : (g : ℕ) (gs : List ℕ) → is_among gs g ≡ false → but g gs ≡ gs
none_to_drop g [] none = refl
none_to_drop g (k ∷ gs) none = by (eqb k g) none (none_to_drop g gs)
  where
    by : (b : Bool) → (b || is_among gs g) ≡ false → (is_among gs g ≡ false → but g gs ≡ gs) → cond (not b) (k ∷ but g gs) (but g gs) ≡ k ∷ gs
    by true h later = absurd cc
    by false h later = ap (λ (l : List ℕ). k ∷ l) (later h)

-- no number is there twice
abbrev AreDistinct : List ℕ → Type 0
AreDistinct [] = Unit {0}
AreDistinct (g ∷ gs) = (is_among gs g ≡ false) × AreDistinct gs

but_not : (g h : ℕ) (gs : List ℕ) → is_among gs h ≡ false → is_among (but g gs) h ≡ false
but_not g h [] none = refl
but_not g h (k ∷ gs) none =
    let parts = or_parts (eqb k h) (is_among gs h) none in
    let later : is_among (but g gs) h ≡ false = but_not g h gs parts.1 in
    cond_both (not (eqb k g)) (k ∷ but g gs) (but g gs) (λ (l : List ℕ). is_among l h ≡ false) (λ kept. or_from (eqb k h) (is_among (but g gs) h) parts.0 later) (λ out. later)

distinct_but : (g : ℕ) (gs : List ℕ) → AreDistinct gs → AreDistinct (but g gs)
distinct_but g [] d = tt
distinct_but g (k ∷ gs) d = cond_both (not (eqb k g)) (k ∷ but g gs) (but g gs) AreDistinct (λ kept. (but_not g k gs d.0, distinct_but g gs d.1)) (λ out. distinct_but g gs d.1)

groups_distinct : (es : List Entry) → AreDistinct (distinct_failgroups es)
groups_distinct [] = tt
groups_distinct (e ∷ es) = (none_left e.failgroup (distinct_failgroups es), distinct_but e.failgroup (distinct_failgroups es) (groups_distinct es))

-- one that is there is taken out once
one_less : (g : ℕ) (gs : List ℕ) → AreDistinct gs → is_among gs g ≡ true → suc (length (but g gs)) ≡ length gs
one_less g [] d there = absurd cc
one_less g (k ∷ gs) d there = by (eqb k g) refl there (one_less g gs d.1)
  where
    by : (b : Bool) → eqb k g ≡ b → (b || is_among gs g) ≡ true → (is_among gs g ≡ true → suc (length (but g gs)) ≡ length gs) → suc (length (cond (not b) (k ∷ but g gs) (but g gs))) ≡ suc (length gs)
    by true is h later =
        let gone : but g gs ≡ gs = none_to_drop g gs (ap (λ (n : ℕ). is_among gs n) (sym (eqb-true k g is)) ∙ d.0) in
        ap (λ (l : List ℕ). suc (length l)) gone
    by false is h later = ap (λ (n : ℕ). suc n) (later h)

-- a group is among those of disks where one of them lies in it
groups_any : (g : ℕ) (cs : List Candidate) → is_among (distinct_failgroups (entries cs)) g ≡ list_any (is_candidate_of_failgroup g) cs
groups_any g [] = refl
groups_any g (c ∷ cs) = by (eqb c.entry.failgroup g) refl (groups_any g cs)
  where
    by : (b : Bool) → eqb c.entry.failgroup g ≡ b → is_among (distinct_failgroups (entries cs)) g ≡ list_any (is_candidate_of_failgroup g) cs → (b || is_among (but c.entry.failgroup (distinct_failgroups (entries cs))) g) ≡ (b || list_any (is_candidate_of_failgroup g) cs)
    by true is later = refl
    by false is later = still_among c.entry.failgroup g (distinct_failgroups (entries cs)) (λ e. both_ways (eqb c.entry.failgroup g) is (eq-eqb c.entry.failgroup g e)) ∙ later

count_cons : (o : Option Candidate) (cs : List Candidate) → group_count (cons_option o cs) ≡ cond (is_new_group cs o) (group_count cs + 1) (group_count cs)
count_cons None cs = refl
count_cons (Some c) cs = by (list_any (is_candidate_of_failgroup c.entry.failgroup) cs) (sym (groups_any c.entry.failgroup cs))
  where
    by : (b : Bool) → b ≡ is_among (distinct_failgroups (entries cs)) c.entry.failgroup → suc (length (but c.entry.failgroup (distinct_failgroups (entries cs)))) ≡ cond (not b) (group_count cs + 1) (group_count cs)
    by true is = one_less c.entry.failgroup (distinct_failgroups (entries cs)) (groups_distinct (entries cs)) (sym is)
    by false is = omega (arith, ap (λ (l : List ℕ). length l) (none_to_drop c.entry.failgroup (distinct_failgroups (entries cs)) (sym is)))

-- how many there are from a place on
pub count_from : (test : Entry → Bool) (n : ℕ) (es : List Entry) (ms : List UnitMap) (i : ℕ) (e : Entry) (next : Option Candidate) → i < length es → e ≡ get_or es i e
    → next ≡ candidate_if test n e ms
    → group_count (among test (candidates n (drop i es) ms))
    ≡ cond (is_new_group (among test (candidates n (drop (i + 1) es) ms)) next) (group_count (among test (candidates n (drop (i + 1) es) ms)) + 1) (group_count (among test (candidates n (drop (i + 1) es) ms)))
count_from test n es ms i e next within e_is is =
    ap (λ (cs : List Candidate). group_count cs) (among_from test n es ms i e within e_is) ∙ rw is (count_cons (candidate_if test n e ms) (among test (candidates n (drop (i + 1) es) ms)))

-- the count so far, with one more where the next disk's group is new
pub count_turn : (test : Entry → Bool) (n : ℕ) (es : List Entry) (ms : List UnitMap) (i j : ℕ) (e : Entry) (next : Option Candidate) (so_far : ℕ) (new : Bool) → i ≡ j + 1 → j < length es → e ≡ get_or es j e
    → next ≡ candidate_if test n e ms → so_far ≡ group_count (among test (candidates n (drop i es) ms))
    → new ≡ is_new_group (among test (candidates n (drop (j + 1) es) ms)) next
    → cond new (so_far + 1) so_far ≡ group_count (among test (candidates n (drop j es) ms))
count_turn test n es ms i j e next so_far new is within e_is next_is counted new_is =
    let here : so_far ≡ group_count (among test (candidates n (drop (j + 1) es) ms)) = counted ∙ ap (λ (k : ℕ). group_count (among test (candidates n (drop k es) ms))) is in
    rw (new_is, here) (sym (count_from test n es ms j e next within e_is next_is))

pub count_start : (test : Entry → Bool) (n : ℕ) (es : List Entry) (ms : List UnitMap) (i : ℕ) → length es ≤ i → 0 ≡ group_count (among test (candidates n (drop i es) ms))
count_start test n es ms i past = rw (none_from n es ms i past) refl

any_cons : (g : ℕ) (o : Option Candidate) (cs : List Candidate) → list_any (is_candidate_of_failgroup g) (cons_option o cs) ≡ (has_candidate_of_failgroup g o || list_any (is_candidate_of_failgroup g) cs)
any_cons g None cs = refl
any_cons g (Some c) cs = refl

-- whether one from a place on lies in a group
pub any_from : (test : Entry → Bool) (g n : ℕ) (es : List Entry) (ms : List UnitMap) (i : ℕ) (e : Entry) → i < length es → e ≡ get_or es i e
    → list_any (is_candidate_of_failgroup g) (among test (candidates n (drop i es) ms)) ≡ (has_candidate_of_failgroup g (candidate_if test n e ms) || list_any (is_candidate_of_failgroup g) (among test (candidates n (drop (i + 1) es) ms)))
any_from test g n es ms i e within e_is =
    ap (λ (cs : List Candidate). list_any (is_candidate_of_failgroup g) cs) (among_from test n es ms i e within e_is) ∙ any_cons g (candidate_if test n e ms) (among test (candidates n (drop (i + 1) es) ms))

pub any_end : (test : Entry → Bool) (g n : ℕ) (es : List Entry) (ms : List UnitMap) (i : ℕ) → length es ≤ i → list_any (is_candidate_of_failgroup g) (among test (candidates n (drop i es) ms)) ≡ false
any_end test g n es ms i past = rw (none_from n es ms i past) refl

and_true : (b : Bool) → b ≡ (b && true)
and_true true = refl
and_true false = refl

and_false : (b : Bool) → false ≡ (b && false)
and_false true = refl
and_false false = refl

-- whether the disk that may take a copy lies in a group, by its entry
pub one_of_disk : (test : Entry → Bool) (g n : ℕ) (e : Entry) (ms : List UnitMap) → has_candidate_of_failgroup g (candidate_if test n e ms) ≡ (eqb e.failgroup g && is_some (candidate_if test n e ms))
unfolding candidate_if candidate_at candidate
one_of_disk test g n e ms = by (test e) (slice_get ms e.number)
  where
    made : (m : UnitMap) (fits : Bool) → has_candidate_of_failgroup g (cond fits (Some (record { entry = e; used = used_of m; total = total_of m; home = lowest_home n e m })) None) ≡ (eqb e.failgroup g && is_some (cond {A = Option Candidate} fits (Some (record { entry = e; used = used_of m; total = total_of m; home = lowest_home n e m })) None))
    made m true = and_true (eqb e.failgroup g)
    made m false = and_false (eqb e.failgroup g)

    by : (t : Bool) (o : Option UnitMap) → has_candidate_of_failgroup g (cond t (option_and_then (candidate n e) o) None) ≡ (eqb e.failgroup g && is_some (cond t (option_and_then (candidate n e) o) None))
    by true (Some m) = made m (is_target e && is_some (lowest n m))
    by true None = and_false (eqb e.failgroup g)
    by false o = and_false (eqb e.failgroup g)
