-- The failure groups of disks, in the order of their first disks.
use Rattle.std.proofs.Common.{◌≡◌, inl, inr, ℕ, ◌+◌, ◌<◌, ◌≤◌, Bool, true, false, cond, not, ◌&&◌, ◌||◌, List, [], ◌∷◌, length, take, drop, get_or, filter, refl, sym, ap, ◌∙◌, arith, eqb}
use Rattle.std.specs.List.{list_any}
use Rattle.std.proofs.lemmas.Bool.{cases_eq, eq-eqb, eqb-true, ne_eqb, both_ways}
use Rattle.std.proofs.lemmas.List.{drop_more, drop_all}
use Rattle.std.proofs.lemmas.List.Elements.{filter_agree}
use Rattle.std.proofs.lemmas.List.Folds.{list_any_more}
use Rattle.asm_formats.specs.Status.{Entry}
use Rattle.asm_placement.specs.DiskSets.{is_among, distinct_failgroups}
use Rattle.partnership.proofs.Turns.{filter_both}
use Rattle.partnership.specs.Selections.{lies_in}

-- all but a number
abbrev but : ℕ → List ℕ → List ℕ
but g gs = filter (λ h. not (eqb h g)) gs

still_among : (g h : ℕ) (gs : List ℕ) → (g ≡ h → ⊥) → is_among (but g gs) h ≡ is_among gs h
still_among g h [] other = refl
still_among g h (k ∷ gs) other = by (eqb k g) refl (still_among g h gs other)
  where
    by : (b : Bool) → eqb k g ≡ b → is_among (but g gs) h ≡ is_among gs h → is_among (cond (not b) (k ∷ but g gs) (but g gs)) h ≡ (eqb k h || is_among gs h)
    by true is later =
        let same : k ≡ g = eqb-true k g is in
        rw (ne_eqb k h (λ e. other (sym same ∙ e))) later
    by false is later = ap (λ (b : Bool). eqb k h || b) later

-- a group is among those of disks where one of them lies in it
pub groups_any : (g : ℕ) (es : List Entry) → is_among (distinct_failgroups es) g ≡ list_any (lies_in g) es
groups_any g [] = refl
groups_any g (e ∷ es) = by (eqb e.failgroup g) refl (groups_any g es)
  where
    by : (b : Bool) → eqb e.failgroup g ≡ b → is_among (distinct_failgroups es) g ≡ list_any (lies_in g) es → (b || is_among (but e.failgroup (distinct_failgroups es)) g) ≡ (b || list_any (lies_in g) es)
    by true is later = refl
    by false is later = still_among e.failgroup g (distinct_failgroups es) (λ same. both_ways (eqb e.failgroup g) is (eq-eqb e.failgroup g same)) ∙ later

-- the groups of the disks from a place on in which no earlier disk lies
abbrev pub groups_from : List Entry → ℕ → List ℕ
groups_from es i = filter (λ g. not (list_any (lies_in g) (take i es))) (distinct_failgroups (drop i es))

turned : (g h : ℕ) → eqb g h ≡ eqb h g
turned g h = elim (cases_eq g h) [
  | inl same ↦ eq-eqb g h same ∙ sym (eq-eqb h g (sym same))
  | inr other ↦ ne_eqb g h other ∙ sym (ne_eqb h g (λ e. other (sym e)))
]

apart : (a b : Bool) → (not b && not a) ≡ not (a || b)
apart true true = refl
apart true false = refl
apart false true = refl
apart false false = refl

-- the later groups, without that of the disk
later_groups : (es : List Entry) (i : ℕ) (e : Entry) → i < length es → e ≡ get_or es i e
    → filter (λ g. not (list_any (lies_in g) (take i es))) (but e.failgroup (distinct_failgroups (drop (i + 1) es))) ≡ groups_from es (i + 1)
later_groups es i e within is =
    filter_both (λ g. not (list_any (lies_in g) (take i es))) (λ h. not (eqb h e.failgroup)) (distinct_failgroups (drop (i + 1) es))
    ∙ filter_agree (λ g. not (eqb g e.failgroup) && not (list_any (lies_in g) (take i es))) (λ g. not (list_any (lies_in g) (take (i + 1) es)))
    (λ g. apart (list_any (lies_in g) (take i es)) (eqb g e.failgroup)
    ∙ ap (λ (b : Bool). not (list_any (lies_in g) (take i es) || b)) (turned g e.failgroup ∙ ap (λ (x : Entry). eqb x.failgroup g) is)
    ∙ ap not (sym (list_any_more (lies_in g) es i e within)))
    (distinct_failgroups (drop (i + 1) es))

-- those from a place on, by those behind it
pub groups_step : (es : List Entry) (i : ℕ) (e : Entry) → i < length es → e ≡ get_or es i e
    → groups_from es i ≡ cond (not (list_any (lies_in e.failgroup) (take i es))) (e.failgroup ∷ groups_from es (i + 1)) (groups_from es (i + 1))
groups_step es i e within is =
    let rest : drop i es ≡ e ∷ drop (i + 1) es = drop_more es i e within ∙ ap (λ (x : Entry). x ∷ drop (i + 1) es) (sym is) in
    ap (λ (l : List Entry). filter (λ g. not (list_any (lies_in g) (take i es))) (distinct_failgroups l)) rest
    ∙ ap (λ (l : List ℕ). cond (not (list_any (lies_in e.failgroup) (take i es))) (e.failgroup ∷ l) l) (later_groups es i e within is)

all_kept : (gs : List ℕ) → filter (λ g. true) gs ≡ gs
all_kept [] = refl
all_kept (g ∷ gs) = ap (λ (l : List ℕ). g ∷ l) (all_kept gs)

pub groups_start : (es : List Entry) → groups_from es 0 ≡ distinct_failgroups es
groups_start es = all_kept (distinct_failgroups es)

pub groups_end : (es : List Entry) (i : ℕ) → length es ≤ i → groups_from es i ≡ []
groups_end es i past = ap (λ (l : List Entry). filter (λ g. not (list_any (lies_in g) (take i es))) (distinct_failgroups l)) (drop_all i es past)

-- ---- how many there are

pub count_first : (es : List Entry) (i : ℕ) (e : Entry) (count : ℕ) → i < length es → e ≡ get_or es i e → list_any (lies_in e.failgroup) (take i es) ≡ false
    → count + length (groups_from es i) ≡ length (distinct_failgroups es) → count + 1 + length (groups_from es (i + 1)) ≡ length (distinct_failgroups es)
count_first es i e count within is new so_far =
    let one : groups_from es i ≡ e.failgroup ∷ groups_from es (i + 1) = groups_step es i e within is ∙ ap (λ (b : Bool). cond (not b) (e.failgroup ∷ groups_from es (i + 1)) (groups_from es (i + 1))) new in
    omega (arith, ap (λ (l : List ℕ). length l) one)

pub count_later : (es : List Entry) (i : ℕ) (e : Entry) (count : ℕ) → i < length es → e ≡ get_or es i e → list_any (lies_in e.failgroup) (take i es) ≡ true
    → count + length (groups_from es i) ≡ length (distinct_failgroups es) → count + length (groups_from es (i + 1)) ≡ length (distinct_failgroups es)
count_later es i e count within is old so_far =
    let one : groups_from es i ≡ groups_from es (i + 1) = groups_step es i e within is ∙ ap (λ (b : Bool). cond (not b) (e.failgroup ∷ groups_from es (i + 1)) (groups_from es (i + 1))) old in
    omega (arith, ap (λ (l : List ℕ). length l) one)

pub count_start : (es : List Entry) → 0 + length (groups_from es 0) ≡ length (distinct_failgroups es)
count_start es = omega (arith, ap (λ (l : List ℕ). length l) (groups_start es))

pub count_end : (es : List Entry) (i count : ℕ) → length es ≤ i → count + length (groups_from es i) ≡ length (distinct_failgroups es) → count ≡ length (distinct_failgroups es)
count_end es i count past so_far = omega (arith, ap (λ (l : List ℕ). length l) (groups_end es i past))
