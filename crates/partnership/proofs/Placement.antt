-- Where the maps are those of a group's records, the choices by maps are the choices of the placement.
use Rattle.std.proofs.Common.{◌≡◌, ℕ, zero, suc, ◌+◌, ◌-◌, ◌<◌, Bool, true, false, cond, ◌&&◌, List, [], ◌∷◌, length, map, filter, refl, ap, ◌∙◌, Option, Some, None, leb}
use Rattle.std.specs.Prelude.{IsSomeAnd, if◌then◌else◌}
use Rattle.std.specs.List.{cons_option, slice_get}
use Rattle.std.specs.Option.{is_some, option_map, option_and_then}
use Rattle.std.proofs.lemmas.List.Elements.{filter_agree}
use Rattle.asm_formats.specs.asm_group.Shape.{Shape}
use Rattle.asm_formats.specs.Sets.{has_bit}
use Rattle.asm_formats.specs.Status.{Entry}
use Rattle.asm_formats.specs.Items.{Item, Homes}
use Rattle.allocator.specs.UnitMaps.{UnitMap, used_of, total_of}
use Rattle.asm_placement.specs.Modes.{is_target}
use Rattle.asm_placement.specs.DiskSets.{distinct_failgroups}
use Rattle.asm_placement.specs.Space as space
use Rattle.asm_placement.specs.Space.{used_units, user_units, lowest_run, has_room, is_tried_before}
use Rattle.asm_placement.specs.Choices as choices
use Rattle.asm_placement.specs.Choices.{home_on, partners_with_room, homes_for, disks_for}
use Rattle.partnership.specs.Candidates.{Candidate, candidate, candidate_at, candidates, is_less_full, earlier_candidate, candidate_tried_first, entries, among, is_disk_in_set, is_outside, group_count, may_be_first_candidate, candidates_in_turn, with_others, homes, three, chosen_homes}
use Rattle.partnership.specs.UnitsOf.{AreUnits, AreUnitsOf}
use Rattle.partnership.proofs.Runs.{lowest_of_disk}
use Rattle.partnership.proofs.Turns.{filter_both}

-- a disk as a candidate, by the records
abbrev pub as_candidate : Shape → List Item → ℕ → Entry → Candidate
as_candidate s items n e = record { entry = e; used = used_units s items e.number; total = user_units s e; home = home_on s items n e }

-- it may take a copy
abbrev pub may_have : Shape → List Item → ℕ → Entry → Bool
may_have s items n e = is_target e && has_room s items n e

abbrev with_room : Shape → List Item → ℕ → List Entry → List Entry
with_room s items n es = filter (may_have s items n) es

abbrev all_candidates : Shape → List Item → ℕ → List Entry → List Candidate
all_candidates s items n es = map (as_candidate s items n) (with_room s items n es)

-- a disk as a candidate, by its used and user units and its lowest run
abbrev made : Entry → ℕ → ℕ → Option ℕ → Option Candidate
made e used total low = if is_target e && is_some low then Some (record { entry = e; used = used; total = total; home = option_map (λ u. record { disk = e.number; unit = u }) low }) else None

candidate_is : (s : Shape) (items : List Item) (n : ℕ) (e : Entry) (m : UnitMap) → 0 < n → AreUnits s items e m → candidate n e m ≡ cond (may_have s items n e) (Some (as_candidate s items n e)) None
unfolding candidate
candidate_is s items n e m some are =
    let total : total_of m ≡ user_units s e = rw (are.first, are.units) refl in
    ap (made e (used_of m) (total_of m)) (lowest_of_disk s items e m n some are)
    ∙ ap (λ (u : ℕ). made e u (total_of m) (lowest_run s items n e)) are.used
    ∙ ap (λ (t : ℕ). made e (used_units s items e.number) t (lowest_run s items n e)) total

candidate_at_is : (s : Shape) (items : List Item) (n : ℕ) (e : Entry) (ms : List UnitMap) → 0 < n → IsSomeAnd (slice_get ms e.number) (AreUnits s items e) → candidate_at n e ms ≡ cond (may_have s items n e) (Some (as_candidate s items n e)) None
unfolding candidate_at
candidate_at_is s items n e ms some are = by (slice_get ms e.number) are
  where
    by : (o : Option UnitMap) → IsSomeAnd o (AreUnits s items e) → option_and_then (candidate n e) o ≡ cond (may_have s items n e) (Some (as_candidate s items n e)) None
    by None none = absurd none
    by (Some m) is = candidate_is s items n e m some is

pub candidates_are : (s : Shape) (items : List Item) (n : ℕ) (es : List Entry) (ms : List UnitMap) → 0 < n → AreUnitsOf s items es ms → candidates n es ms ≡ map (as_candidate s items n) (with_room s items n es)
candidates_are s items n [] ms some are = refl
candidates_are s items n (e ∷ es) ms some are =
    rw (candidate_at_is s items n e ms some are.0, candidates_are s items n es ms some are.1) (by (may_have s items n e))
  where
    by : (b : Bool) → cons_option (cond b (Some (as_candidate s items n e)) None) (map (as_candidate s items n) (with_room s items n es)) ≡ map (as_candidate s items n) (cond b (e ∷ with_room s items n es) (with_room s items n es))
    by true = refl
    by false = refl

pub among_map : (s : Shape) (items : List Item) (n : ℕ) (test : Entry → Bool) (es : List Entry) → among test (map (as_candidate s items n) es) ≡ map (as_candidate s items n) (filter test es)
among_map s items n test [] = refl
among_map s items n test (e ∷ es) = rw (among_map s items n test es) (by (test e))
  where
    by : (b : Bool) → cond b (as_candidate s items n e ∷ map (as_candidate s items n) (filter test es)) (map (as_candidate s items n) (filter test es)) ≡ map (as_candidate s items n) (cond b (e ∷ filter test es) (filter test es))
    by true = refl
    by false = refl

pub tried_map : (s : Shape) (items : List Item) (n : ℕ) (es : List Entry) → candidate_tried_first (map (as_candidate s items n) es) ≡ option_map (as_candidate s items n) (space.tried_first s items es)
unfolding space.tried_first is_less_full
tried_map s items n [] = refl
tried_map s items n (e ∷ es) = rw (tried_map s items n es) (by (space.tried_first s items es))
  where
    pick : (b : Bool) (x y : Entry) → cond b (Some (as_candidate s items n x)) (Some (as_candidate s items n y)) ≡ option_map (as_candidate s items n) (cond b (Some x) (Some y))
    pick true x y = refl
    pick false x y = refl

    by : (o : Option Entry) → earlier_candidate (as_candidate s items n e) (option_map (as_candidate s items n) o) ≡ option_map (as_candidate s items n) (space.earlier s items e o)
    by None = refl
    by (Some best) = pick (is_tried_before s items best e) best e

entries_map : (s : Shape) (items : List Item) (n : ℕ) (es : List Entry) → entries (map (as_candidate s items n) es) ≡ es
entries_map s items n [] = refl
entries_map s items n (e ∷ es) = ap (λ (l : List Entry). e ∷ l) (entries_map s items n es)

homes_map : (s : Shape) (items : List Item) (n : ℕ) (es : List Entry) → homes (map (as_candidate s items n) es) ≡ map (home_on s items n) es
homes_map s items n [] = refl
homes_map s items n (e ∷ es) = ap (λ (l : Homes). home_on s items n e ∷ l) (homes_map s items n es)

turns_map : (s : Shape) (items : List Item) (n : ℕ) (es : List Entry) (taken : List ℕ) (k : ℕ) → candidates_in_turn (map (as_candidate s items n) es) taken k ≡ map (as_candidate s items n) (choices.in_turn s items es taken k)
turns_map s items n es taken zero = refl
turns_map s items n es taken (suc k) = by (space.tried_first s items (filter (is_outside taken) es)) refl (λ (more : List ℕ). turns_map s items n es more k)
  where
    first : candidate_tried_first (among (is_outside taken) (map (as_candidate s items n) es)) ≡ option_map (as_candidate s items n) (space.tried_first s items (filter (is_outside taken) es))
    first = ap (λ (cs : List Candidate). candidate_tried_first cs) (among_map s items n (is_outside taken) es) ∙ tried_map s items n (filter (is_outside taken) es)

    by : (o : Option Entry) → space.tried_first s items (filter (is_outside taken) es) ≡ o
        → ((more : List ℕ) → candidates_in_turn (map (as_candidate s items n) es) more k ≡ map (as_candidate s items n) (choices.in_turn s items es more k))
        → candidates_in_turn (map (as_candidate s items n) es) taken (suc k) ≡ map (as_candidate s items n) (choices.in_turn s items es taken (suc k))
    by None is later = rw (first, is) refl
    by (Some e) is later = rw (first, is) (ap (λ (cs : List Candidate). as_candidate s items n e ∷ cs) (later (e.failgroup ∷ taken)))

swapped : (a b c : Bool) → (a && b && c) ≡ (a && c && b)
swapped true b c = by b c
  where
    by : (b c : Bool) → (b && c) ≡ (c && b)
    by true true = refl
    by true false = refl
    by false true = refl
    by false false = refl
swapped false b c = refl

partners_are : (s : Shape) (items : List Item) (n : ℕ) (es : List Entry) (e : Entry) → filter (is_disk_in_set e.partners) (with_room s items n es) ≡ partners_with_room s items es n e
partners_are s items n es e =
    filter_both (is_disk_in_set e.partners) (may_have s items n) es
    ∙ filter_agree (λ (f : Entry). may_have s items n f && is_disk_in_set e.partners f) (λ (f : Entry). is_target f && has_bit e.partners f.number && has_room s items n f)
    (λ f. swapped (is_target f) (has_room s items n f) (has_bit e.partners f.number)) es

count_is : (s : Shape) (items : List Item) (n : ℕ) (es : List Entry) (e : Entry) → group_count (among (is_disk_in_set e.partners) (map (as_candidate s items n) (with_room s items n es))) ≡ length (distinct_failgroups (partners_with_room s items es n e))
count_is s items n es e =
    ap (λ (cs : List Candidate). group_count cs) (among_map s items n (is_disk_in_set e.partners) (with_room s items n es))
    ∙ ap (λ (l : List Entry). length (distinct_failgroups l)) (entries_map s items n (filter (is_disk_in_set e.partners) (with_room s items n es)) ∙ partners_are s items n es e)

first_is : (s : Shape) (items : List Item) (n : ℕ) (es : List Entry) (copies : ℕ) → filter (may_be_first_candidate (map (as_candidate s items n) (with_room s items n es)) copies) (with_room s items n es) ≡ filter (choices.may_be_first s items es copies n) es
unfolding may_be_first_candidate
first_is s items n es copies =
    filter_both (may_be_first_candidate (map (as_candidate s items n) (with_room s items n es)) copies) (may_have s items n) es
    ∙ filter_agree (λ (e : Entry). may_have s items n e && may_be_first_candidate (map (as_candidate s items n) (with_room s items n es)) copies e) (choices.may_be_first s items es copies n)
    (λ e. ap (λ (k : ℕ). may_have s items n e && leb copies (k + 1)) (count_is s items n es e)) es

others_map : (s : Shape) (items : List Item) (n : ℕ) (es : List Entry) (copies : ℕ) (e : Entry)
    → homes (with_others (map (as_candidate s items n) (with_room s items n es)) copies (as_candidate s items n e))
    ≡ map (home_on s items n) (e ∷ choices.in_turn s items (partners_with_room s items es n e) (e.failgroup ∷ []) (copies - 1))
others_map s items n es copies e =
    ap (λ (l : Homes). home_on s items n e ∷ l)
    (ap (λ (cs : List Candidate). homes (candidates_in_turn cs (e.failgroup ∷ []) (copies - 1))) (among_map s items n (is_disk_in_set e.partners) (with_room s items n es) ∙ ap (map (as_candidate s items n)) (partners_are s items n es e))
    ∙ ap homes (turns_map s items n (partners_with_room s items es n e) (e.failgroup ∷ []) (copies - 1))
    ∙ homes_map s items n (choices.in_turn s items (partners_with_room s items es n e) (e.failgroup ∷ []) (copies - 1)))

chosen_is : (s : Shape) (items : List Item) (n : ℕ) (es : List Entry) (copies : ℕ) → chosen_homes (map (as_candidate s items n) (with_room s items n es)) copies ≡ option_map three (homes_for s items es copies n)
unfolding homes_for disks_for
chosen_is s items n es copies = by (space.tried_first s items (filter (choices.may_be_first s items es copies n) es)) refl
  where
    first : candidate_tried_first (among (may_be_first_candidate (all_candidates s items n es) copies) (all_candidates s items n es)) ≡ option_map (as_candidate s items n) (space.tried_first s items (filter (choices.may_be_first s items es copies n) es))
    first =
        ap (λ (l : List Candidate). candidate_tried_first l) (among_map s items n (may_be_first_candidate (all_candidates s items n es) copies) (with_room s items n es) ∙ ap (map (as_candidate s items n)) (first_is s items n es copies))
        ∙ tried_map s items n (filter (choices.may_be_first s items es copies n) es)

    by : (o : Option Entry) → space.tried_first s items (filter (choices.may_be_first s items es copies n) es) ≡ o
        → chosen_homes (all_candidates s items n es) copies ≡ option_map three (homes_for s items es copies n)
    by None is = rw (first, is) refl
    by (Some e) is = rw (first, is) (ap (λ (l : Homes). Some (three l)) (others_map s items n es copies e))

-- the homes that are chosen are those of the placement
pub homes_are : (s : Shape) (items : List Item) (es : List Entry) (ms : List UnitMap) (copies n : ℕ) → 0 < n → AreUnitsOf s items es ms → chosen_homes (candidates n es ms) copies ≡ option_map three (homes_for s items es copies n)
homes_are s items es ms copies n some are = ap (λ (cs : List Candidate). chosen_homes cs copies) (candidates_are s items n es ms some are) ∙ chosen_is s items n es copies
