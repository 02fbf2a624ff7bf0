-- One turn of a search over disks, from the last to the first.
use Rattle.std.proofs.Common.{◌≡◌, ℕ, ◌+◌, ◌<◌, ◌≤◌, Bool, true, false, cond, ◌&&◌, List, [], ◌∷◌, length, get_or, drop, filter, refl, sym, ap, ◌∙◌, Option, Some, None}
use Rattle.std.specs.List.{cons_option, slice_get}
use Rattle.std.specs.Option.{is_some, option_and_then}
use Rattle.std.proofs.lemmas.List.{drop_more, drop_all}
use Rattle.asm_formats.specs.Status.{Entry}
use Rattle.allocator.specs.UnitMaps.{UnitMap, used_of, total_of}
use Rattle.asm_placement.specs.Modes.{is_target}
use Rattle.partnership.specs.Candidates.{Candidate, candidate, candidate_at, candidates, lowest_home, lowest, among, candidate_tried_first}
use Rattle.partnership.specs.Steps.{candidate_if, with_next}

among_one : (test : Entry → Bool) (n : ℕ) (e : Entry) (m : UnitMap) (cs : List Candidate) → among test (cons_option (candidate n e m) cs) ≡ cons_option (cond (test e) (candidate n e m) None) (among test cs)
unfolding candidate
among_one test n e m cs = by (record { entry = e; used = used_of m; total = total_of m; home = lowest_home n e m }) (is_target e && is_some (lowest n m)) (test e) refl
  where
    by : (c : Candidate) (fits t : Bool) → test c.entry ≡ t → among test (cons_option (cond fits (Some c) None) cs) ≡ cons_option (cond t (cond fits (Some c) None) None) (among test cs)
    by c true true is = rw is refl
    by c true false is = rw is refl
    by c false true is = refl
    by c false false is = refl

pub among_cons : (test : Entry → Bool) (n : ℕ) (e : Entry) (ms : List UnitMap) (cs : List Candidate) → among test (cons_option (candidate_at n e ms) cs) ≡ cons_option (candidate_if test n e ms) (among test cs)
unfolding candidate_at candidate_if
among_cons test n e ms cs = by (slice_get ms e.number)
  where
    nothing : (t : Bool) → among test cs ≡ cons_option (cond t None None) (among test cs)
    nothing true = refl
    nothing false = refl

    by : (o : Option UnitMap) → among test (cons_option (option_and_then (candidate n e) o) cs) ≡ cons_option (cond (test e) (option_and_then (candidate n e) o) None) (among test cs)
    by None = nothing (test e)
    by (Some m) = among_one test n e m cs

-- the candidates from a place on
pub candidates_from : (n : ℕ) (es : List Entry) (ms : List UnitMap) (i : ℕ) (e : Entry) → i < length es → e ≡ get_or es i e
    → candidates n (drop i es) ms ≡ cons_option (candidate_at n e ms) (candidates n (drop (i + 1) es) ms)
candidates_from n es ms i e within e_is =
    let a : drop i es ≡ e ∷ drop (i + 1) es = drop_more es i e within ∙ ap (λ (x : Entry). x ∷ drop (i + 1) es) (sym e_is) in
    rw a refl

-- those of them that pass a test
pub among_from : (test : Entry → Bool) (n : ℕ) (es : List Entry) (ms : List UnitMap) (i : ℕ) (e : Entry) → i < length es → e ≡ get_or es i e
    → among test (candidates n (drop i es) ms) ≡ cons_option (candidate_if test n e ms) (among test (candidates n (drop (i + 1) es) ms))
among_from test n es ms i e within e_is =
    ap (λ (cs : List Candidate). among test cs) (candidates_from n es ms i e within e_is) ∙ among_cons test n e ms (candidates n (drop (i + 1) es) ms)

tried_cons : (o : Option Candidate) (cs : List Candidate) → with_next o (candidate_tried_first cs) ≡ candidate_tried_first (cons_option o cs)
tried_cons None cs = refl
tried_cons (Some c) cs = refl

-- behind the last place there are none
pub none_from : (n : ℕ) (es : List Entry) (ms : List UnitMap) (i : ℕ) → length es ≤ i → candidates n (drop i es) ms ≡ []
none_from n es ms i past = rw (drop_all i es past) refl

-- the first of those from a place on, by the first of those behind it
pub tried_from : (test : Entry → Bool) (n : ℕ) (es : List Entry) (ms : List UnitMap) (i : ℕ) (e : Entry) (next best : Option Candidate) → i < length es → e ≡ get_or es i e
    → best ≡ candidate_tried_first (among test (candidates n (drop (i + 1) es) ms)) → next ≡ candidate_if test n e ms
    → with_next next best ≡ candidate_tried_first (among test (candidates n (drop i es) ms))
tried_from test n es ms i e next best within e_is so_far is =
    rw (so_far, is) (tried_cons (candidate_if test n e ms) (among test (candidates n (drop (i + 1) es) ms))
    ∙ sym (ap (λ (cs : List Candidate). candidate_tried_first cs) (among_from test n es ms i e within e_is)))

pub tried_start : (test : Entry → Bool) (n : ℕ) (es : List Entry) (ms : List UnitMap) (i : ℕ) → length es ≤ i → None ≡ candidate_tried_first (among test (candidates n (drop i es) ms))
tried_start test n es ms i past = rw (none_from n es ms i past) refl

-- ---- two tests in turn

pub filter_both : {A : Type 0} (p q : A → Bool) (xs : List A) → filter p (filter q xs) ≡ filter (λ x. q x && p x) xs
filter_both p q [] = refl
filter_both {A} p q (x ∷ xs) = by (q x) (p x) refl (filter_both p q xs)
  where
    by : (a b : Bool) → p x ≡ b → filter p (filter q xs) ≡ filter (λ y. q y && p y) xs → filter p (cond a (x ∷ filter q xs) (filter q xs)) ≡ cond (a && b) (x ∷ filter (λ y. q y && p y) xs) (filter (λ y. q y && p y) xs)
    by true true is later = rw is (ap (λ (l : List A). x ∷ l) later)
    by true false is later = rw is later
    by false b is later = later

pub both_tests : (p q : Entry → Bool) (cs : List Candidate) → among p (among q cs) ≡ among (λ (e : Entry). q e && p e) cs
both_tests p q cs = filter_both (λ (c : Candidate). p c.entry) (λ (c : Candidate). q c.entry) cs
