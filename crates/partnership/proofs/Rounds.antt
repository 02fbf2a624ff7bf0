-- Rounds over the failure groups, disk by disk.
use Rattle.std.proofs.Common.{◌≡◌, ℕ, zero, suc, ◌+◌, ◌-◌, ◌<◌, ◌≤◌, Bool, true, false, cond, not, List, [], ◌∷◌, ◌++◌, length, map, take, drop, get_or, filter, refl, sym, ap, ◌∙◌, Option, Some, None, arith}
use Rattle.std.specs.Prelude.{fold, flat_map, slice_get}
use Rattle.std.specs.List.{list_any}
use Rattle.std.proofs.lemmas.List.{drop_more, drop_all, drop-drop, map-append}
use Rattle.std.proofs.lemmas.List.Concat.{flat_map-append}
use Rattle.std.proofs.lemmas.List.Sums.{fold-append}
use Rattle.asm_formats.specs.Status.{Entry}
use Rattle.asm_placement.specs.DiskSets.{by_group}
use Rattle.asm_placement.specs.TableDisks.{in_rounds}
use Rattle.partnership.specs.declared.choice.Choice.{Choice}
use Rattle.partnership.specs.Selections.{lies_in}
use Rattle.partnership.specs.Rounds.{with_disk, with_found, round}
use Rattle.partnership.proofs.FailureGroups.{groups_from, groups_step, groups_start, groups_end}

-- ---- a disk of a group by its place in it

kept_from : (g : ℕ) (es : List Entry) (i : ℕ) (e : Entry) → i < length es → e ≡ get_or es i e → filter (lies_in g) (drop i es) ≡ cond (lies_in g e) (e ∷ filter (lies_in g) (drop (i + 1) es)) (filter (lies_in g) (drop (i + 1) es))
kept_from g es i e within is = ap (filter (lies_in g)) (drop_more es i e within ∙ ap (λ (x : Entry). x ∷ drop (i + 1) es) (sym is))

-- the place among those of the group that are left
abbrev pub IsNth : List Entry → ℕ → ℕ → ℕ → ℕ → Type 0
IsNth es g n i left = slice_get (filter (lies_in g) (drop i es)) left ≡ slice_get (filter (lies_in g) es) n

pub nth_past : (es : List Entry) (g n i left : ℕ) (e : Entry) → i < length es → e ≡ get_or es i e → lies_in g e ≡ false → IsNth es g n i left → IsNth es g n (i + 1) left
nth_past es g n i left e within is out so_far =
    let step : filter (lies_in g) (drop i es) ≡ filter (lies_in g) (drop (i + 1) es) = kept_from g es i e within is ∙ ap (λ (b : Bool). cond b (e ∷ filter (lies_in g) (drop (i + 1) es)) (filter (lies_in g) (drop (i + 1) es))) out in
    ap (λ (l : List Entry). slice_get l left) (sym step) ∙ so_far

here : (es : List Entry) (g i : ℕ) (e : Entry) → i < length es → e ≡ get_or es i e → lies_in g e ≡ true → filter (lies_in g) (drop i es) ≡ e ∷ filter (lies_in g) (drop (i + 1) es)
here es g i e within is in' = kept_from g es i e within is ∙ ap (λ (b : Bool). cond b (e ∷ filter (lies_in g) (drop (i + 1) es)) (filter (lies_in g) (drop (i + 1) es))) in'

pub nth_found : (es : List Entry) (g n i left : ℕ) (e : Entry) → i < length es → e ≡ get_or es i e → lies_in g e ≡ true → left ≡ 0 → IsNth es g n i left → Some e ≡ slice_get (filter (lies_in g) es) n
nth_found es g n i left e within is in' none so_far =
    let at : slice_get (filter (lies_in g) (drop i es)) left ≡ Some e = ap (λ (l : List Entry). slice_get l left) (here es g i e within is in') ∙ rw none refl in
    sym at ∙ so_far

pub nth_step : (es : List Entry) (g n i left : ℕ) (e : Entry) → i < length es → e ≡ get_or es i e → lies_in g e ≡ true → (left ≡ 0 → ⊥) → IsNth es g n i left → IsNth es g n (i + 1) (left - 1)
nth_step es g n i left e within is in' some so_far =
    let one : left ≡ suc (left - 1) = omega (arith, some) in
    let at : slice_get (filter (lies_in g) (drop i es)) left ≡ slice_get (filter (lies_in g) (drop (i + 1) es)) (left - 1) =
    ap (λ (l : List Entry). slice_get l left) (here es g i e within is in') ∙ ap (λ (k : ℕ). slice_get (e ∷ filter (lies_in g) (drop (i + 1) es)) k) one in
    sym at ∙ so_far

pub nth_end : (es : List Entry) (g n i left : ℕ) → length es ≤ i → IsNth es g n i left → None ≡ slice_get (filter (lies_in g) es) n
nth_end es g n i left past so_far = sym (ap (λ (l : List Entry). slice_get (filter (lies_in g) l) left) (drop_all i es past)) ∙ so_far

-- ---- one round

-- what the groups from a place on give
abbrev pub round_from : ℕ → List Entry → ℕ → List Entry
round_from k es i = flat_map (take 1) (map (drop k) (map (λ g. filter (lies_in g) es) (groups_from es i)))

abbrev pub IsRound : Choice → ℕ → List Entry → Choice → ℕ → Type 0
IsRound from k es choice i = fold with_disk choice (round_from k es i) ≡ fold with_disk from (round k es)

found_is : (choice : Choice) (k : ℕ) (xs : List Entry) → fold with_disk choice (take 1 (drop k xs)) ≡ with_found choice (slice_get xs k)
found_is choice zero [] = refl
found_is choice zero (x ∷ xs) = refl
found_is choice (suc k) [] = refl
found_is choice (suc k) (x ∷ xs) = found_is choice k xs

pub group_step : (from : Choice) (k : ℕ) (es : List Entry) (choice next : Choice) (i : ℕ) (e : Entry) (found : Option Entry) → i < length es → e ≡ get_or es i e → list_any (lies_in e.failgroup) (take i es) ≡ false
    → found ≡ slice_get (filter (lies_in e.failgroup) es) k → next ≡ with_found choice found → IsRound from k es choice i → IsRound from k es next (i + 1)
group_step from k es choice next i e found within is new nth next_is so_far =
    let group : List Entry = filter (lies_in e.failgroup) es in
    let gs : groups_from es i ≡ e.failgroup ∷ groups_from es (i + 1) = groups_step es i e within is ∙ ap (λ (b : Bool). cond (not b) (e.failgroup ∷ groups_from es (i + 1)) (groups_from es (i + 1))) new in
    let one : round_from k es i ≡ take 1 (drop k group) ++ round_from k es (i + 1) = ap (λ (l : List ℕ). flat_map (take 1) (map (drop k) (map (λ g. filter (lies_in g) es) l))) gs in
    let all : fold with_disk choice (round_from k es i) ≡ fold with_disk next (round_from k es (i + 1)) =
    ap (fold with_disk choice) one ∙ fold-append with_disk choice (take 1 (drop k group)) (round_from k es (i + 1))
    ∙ ap (λ (c : Choice). fold with_disk c (round_from k es (i + 1))) (found_is choice k group ∙ ap (with_found choice) (sym nth) ∙ sym next_is) in
    sym all ∙ so_far

pub group_past : (from : Choice) (k : ℕ) (es : List Entry) (choice : Choice) (i : ℕ) (e : Entry) → i < length es → e ≡ get_or es i e → list_any (lies_in e.failgroup) (take i es) ≡ true → IsRound from k es choice i → IsRound from k es choice (i + 1)
group_past from k es choice i e within is old so_far =
    let gs : groups_from es i ≡ groups_from es (i + 1) = groups_step es i e within is ∙ ap (λ (b : Bool). cond (not b) (e.failgroup ∷ groups_from es (i + 1)) (groups_from es (i + 1))) old in
    ap (λ (l : List ℕ). fold with_disk choice (flat_map (take 1) (map (drop k) (map (λ g. filter (lies_in g) es) l)))) (sym gs) ∙ so_far

pub round_start : (from : Choice) (k : ℕ) (es : List Entry) → IsRound from k es from 0
round_start from k es = ap (λ (l : List ℕ). fold with_disk from (flat_map (take 1) (map (drop k) (map (λ g. filter (lies_in g) es) l)))) (groups_start es)

pub round_end : (from : Choice) (k : ℕ) (es : List Entry) (choice : Choice) (i : ℕ) → length es ≤ i → IsRound from k es choice i → choice ≡ fold with_disk from (round k es)
round_end from k es choice i past so_far = sym (ap (λ (l : List ℕ). fold with_disk choice (flat_map (take 1) (map (drop k) (map (λ g. filter (lies_in g) es) l)))) (groups_end es i past)) ∙ so_far

-- ---- all rounds

-- the rounds from one on
abbrev pub rounds_from : ℕ → List Entry → List Entry → ℕ → List Entry
rounds_from rounds q r k = in_rounds (rounds - k) (map (drop k) (by_group q ++ by_group r))

abbrev pub AreRounds : Choice → ℕ → List Entry → List Entry → Choice → ℕ → Type 0
AreRounds from rounds q r choice k = fold with_disk choice (rounds_from rounds q r k) ≡ fold with_disk from (in_rounds rounds (by_group q ++ by_group r))

dropped_more : (k : ℕ) (gs : List (List Entry)) → map (drop 1) (map (drop k) gs) ≡ map (drop (k + 1)) gs
dropped_more k [] = refl
dropped_more k (g ∷ gs) = rw (drop-drop 1 k g, dropped_more k gs) refl

nothing_dropped : (gs : List (List Entry)) → map (drop 0) gs ≡ gs
nothing_dropped [] = refl
nothing_dropped (g ∷ gs) = ap (λ (l : List (List Entry)). g ∷ l) (nothing_dropped gs)

pub round_step : (from : Choice) (rounds : ℕ) (q r : List Entry) (choice first second : Choice) (k : ℕ) → k < rounds → first ≡ fold with_disk choice (round k q) → second ≡ fold with_disk first (round k r)
    → AreRounds from rounds q r choice k → AreRounds from rounds q r second (k + 1)
round_step from rounds q r choice first second k more first_is second_is so_far =
    let left : rounds - k ≡ suc (rounds - (k + 1)) = omega arith in
    let gs : List (List Entry) = by_group q ++ by_group r in
    let one : rounds_from rounds q r k ≡ flat_map (take 1) (map (drop k) gs) ++ rounds_from rounds q r (k + 1) =
    ap (λ (n : ℕ). in_rounds n (map (drop k) gs)) left ∙ ap (λ (l : List (List Entry)). flat_map (take 1) (map (drop k) gs) ++ in_rounds (rounds - (k + 1)) l) (dropped_more k gs) in
    let both : flat_map (take 1) (map (drop k) gs) ≡ round k q ++ round k r =
    ap (flat_map (take 1)) (map-append (drop k) (by_group q) (by_group r)) ∙ flat_map-append (take 1) (map (drop k) (by_group q)) (map (drop k) (by_group r)) in
    let taken : fold with_disk choice (flat_map (take 1) (map (drop k) gs)) ≡ second =
    ap (fold with_disk choice) both ∙ fold-append with_disk choice (round k q) (round k r) ∙ ap (λ (c : Choice). fold with_disk c (round k r)) (sym first_is) ∙ sym second_is in
    let all : fold with_disk choice (rounds_from rounds q r k) ≡ fold with_disk second (rounds_from rounds q r (k + 1)) =
    ap (fold with_disk choice) one ∙ fold-append with_disk choice (flat_map (take 1) (map (drop k) gs)) (rounds_from rounds q r (k + 1))
    ∙ ap (λ (c : Choice). fold with_disk c (rounds_from rounds q r (k + 1))) taken in
    sym all ∙ so_far

pub rounds_start : (from : Choice) (rounds : ℕ) (q r : List Entry) → AreRounds from rounds q r from 0
rounds_start from rounds q r =
    let all : rounds - 0 ≡ rounds = omega arith in
    ap (λ (n : ℕ). fold with_disk from (in_rounds n (map (drop 0) (by_group q ++ by_group r)))) all
    ∙ ap (λ (l : List (List Entry)). fold with_disk from (in_rounds rounds l)) (nothing_dropped (by_group q ++ by_group r))

pub rounds_end : (from : Choice) (rounds : ℕ) (q r : List Entry) (choice : Choice) (k : ℕ) → rounds ≤ k → AreRounds from rounds q r choice k → choice ≡ fold with_disk from (in_rounds rounds (by_group q ++ by_group r))
rounds_end from rounds q r choice k past so_far =
    let none : rounds - k ≡ 0 = omega arith in
    sym (ap (λ (n : ℕ). fold with_disk choice (in_rounds n (map (drop k) (by_group q ++ by_group r)))) none) ∙ so_far

-- once none is left to take, no disk makes a difference
full_stays : (set : ℕ) (xs : List Entry) → fold with_disk (record { set = set; left = 0 }) xs ≡ record { set = set; left = 0 }
full_stays set [] = refl
full_stays set (x ∷ xs) = full_stays set xs

pub none_left : (from : Choice) (rounds : ℕ) (q r : List Entry) (choice : Choice) (k : ℕ) → choice.left ≡ 0 → AreRounds from rounds q r choice k → choice ≡ fold with_disk from (in_rounds rounds (by_group q ++ by_group r))
none_left from rounds q r choice k none so_far =
    let full : choice ≡ record { set = choice.set; left = 0 } = ap (λ (n : ℕ). record { set = choice.set; left = n }) none in
    full ∙ sym (full_stays choice.set (rounds_from rounds q r k)) ∙ ap (λ (c : Choice). fold with_disk c (rounds_from rounds q r k)) (sym full) ∙ so_far
