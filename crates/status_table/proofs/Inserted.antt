-- A disk more, and a disk less.
use Rattle.std.proofs.Common.{◌≡◌, ◌≢◌, inl, inr, ⊎_elim, ℕ, zero, suc, ◌+◌, ◌-◌, ◌<◌, ◌≤◌, Bool, true, false, cond, eqb, leb, ltb, List, [], ◌∷◌, ◌++◌, length, map, filter, take, drop, set, get_or, refl, sym, ap, subst, ◌∙◌, arith}
use Rattle.std.specs.Prelude.{◌||◌, not}
use Rattle.std.specs.List.{list_all, range_with_len}
use Rattle.std.proofs.lemmas.Bool.{and_parts, and_from, cond_both, cond-true, cond-false, leb-true, le-leb, ltb-true, ltb-false, eqb-true, ne_eqb, eq-eqb, false≢true, cases_lt}
use Rattle.std.proofs.lemmas.List.{take_more_set, take_more}
use Rattle.asm_formats.specs.Sets.{elements, has_bit}
use Rattle.asm_formats.specs.Status.{Entry, Status, is_entry, is_status, entry_of, has_entry, have_entries, ascends_from}
use Rattle.status_table.specs.Rules.{number_of_entry}
use Rattle.status_table.specs.Changes.{IsInSomeSet, has_failgroup, free_from, entries_with, least_free_failgroup, status_with_entry, status_without_entry}
use Rattle.status_table.specs.EntryChanges.{lower_number_first}
use Rattle.status_table.proofs.Allowed.{parts_of, parts_are}

-- ---- entries by number

has_first : (e : Entry) (es : List Entry) (d : ℕ) → has_entry (e ∷ es) d ≡ (eqb e.number d || has_entry es d)
unfolding entry_of
has_first e es d = by (eqb e.number d) refl where
  by : (b : Bool) → eqb e.number d ≡ b → has_entry (e ∷ es) d ≡ (b || has_entry es d)
  by true here = rw here refl
  by false other = rw other refl

or_less : (a b : Bool) → (a || b) ≡ false → (a ≡ false) × (b ≡ false)
or_less true b none = absurd (false≢true (sym none))
or_less false b none = (refl, none)

-- a number that no entry has
none_of : (e : Entry) (es : List Entry) (d : ℕ) → has_entry (e ∷ es) d ≡ false → (e.number ≢ d) × (has_entry es d ≡ false)
none_of e es d none =
    let two = or_less (eqb e.number d) (has_entry es d) (sym (has_first e es d) ∙ none) in
    ((λ same. false≢true (sym two.0 ∙ eq-eqb e.number d same)), two.1)

weaker : (es : List Entry) (low high : ℕ) → low ≤ high → ascends_from high (map number_of_entry es) ≡ true → ascends_from low (map number_of_entry es) ≡ true
weaker [] low high le up = refl
weaker (e ∷ es) low high le up =
    let u = and_parts (leb high e.number) (ascends_from (e.number + 1) (map number_of_entry es)) up in
    and_from (leb low e.number) (ascends_from (e.number + 1) (map number_of_entry es)) (le-leb low e.number (omega (arith, le, leb-true high e.number u.0))) u.1

none_below : (es : List Entry) (least d : ℕ) → d < least → ascends_from least (map number_of_entry es) ≡ true → has_entry es d ≡ false
unfolding entry_of
none_below [] least d lt up = refl
none_below (e ∷ es) least d lt up =
    let u = and_parts (leb least e.number) (ascends_from (e.number + 1) (map number_of_entry es)) up in
    let low = leb-true least e.number u.0 in
    has_first e es d ∙ (λ i. ne_eqb e.number d (λ same. omega (arith, lt, low, same)) i || none_below es (e.number + 1) d (omega (arith, lt, low)) u.1 i)

-- ---- a disk more

or_swap : (a b c : Bool) → (a || (b || c)) ≡ (b || (a || c))
or_swap true true c = refl
or_swap true false c = refl
or_swap false b c = refl

inserted_has : (e : Entry) (es : List Entry) (d : ℕ) → has_entry (entries_with e es) d ≡ (eqb e.number d || has_entry es d)
inserted_has e [] d = has_first e [] d
inserted_has e (x ∷ xs) d = cond_both (ltb e.number x.number) (e ∷ entries_with x xs) (x ∷ entries_with e xs) (λ (l : List Entry). has_entry l d ≡ (eqb e.number d || has_entry (x ∷ xs) d))
    (λ less. has_first e (entries_with x xs) d ∙ ap (λ (b : Bool). eqb e.number d || b) (inserted_has x xs d ∙ sym (has_first x xs d)))
    (λ more. has_first x (entries_with e xs) d ∙ ap (λ (b : Bool). eqb x.number d || b) (inserted_has e xs d) ∙ or_swap (eqb x.number d) (eqb e.number d) (has_entry xs d)
    ∙ ap (λ (b : Bool). eqb e.number d || b) (sym (has_first x xs d)))

inserted_fit : (e : Entry) (es : List Entry) → is_entry e ≡ true → list_all is_entry es ≡ true → list_all is_entry (entries_with e es) ≡ true
inserted_fit e [] ok all = and_from (is_entry e) true ok refl
inserted_fit e (x ∷ xs) ok all =
    let a = and_parts (is_entry x) (list_all is_entry xs) all in
    cond_both (ltb e.number x.number) (e ∷ entries_with x xs) (x ∷ entries_with e xs) (λ (l : List Entry). list_all is_entry l ≡ true)
    (λ less. and_from (is_entry e) (list_all is_entry (entries_with x xs)) ok (inserted_fit x xs a.0 a.1))
    (λ more. and_from (is_entry x) (list_all is_entry (entries_with e xs)) a.0 (inserted_fit e xs ok a.1))

inserted_ascend : (e : Entry) (es : List Entry) (least : ℕ) → least ≤ e.number → has_entry es e.number ≡ false → ascends_from least (map number_of_entry es) ≡ true
    → ascends_from least (map number_of_entry (entries_with e es)) ≡ true
inserted_ascend e [] least low none up = and_from (leb least e.number) true (le-leb least e.number low) refl
inserted_ascend e (x ∷ xs) least low none up =
    let u = and_parts (leb least x.number) (ascends_from (x.number + 1) (map number_of_entry xs)) up in
    let other = none_of x xs e.number none in
    cond_both (ltb e.number x.number) (e ∷ entries_with x xs) (x ∷ entries_with e xs) (λ (l : List Entry). ascends_from least (map number_of_entry l) ≡ true)
    (λ less. let lt = ltb-true e.number x.number less in
    and_from (leb least e.number) (ascends_from (e.number + 1) (map number_of_entry (entries_with x xs))) (le-leb least e.number low)
    (inserted_ascend x xs (e.number + 1) (omega (arith, lt)) (none_below xs (x.number + 1) x.number (omega arith) u.1) (weaker xs (e.number + 1) (x.number + 1) (omega (arith, lt)) u.1)))
    (λ more. let le = ltb-false e.number x.number more in
    and_from (leb least x.number) (ascends_from (x.number + 1) (map number_of_entry (entries_with e xs))) u.0
    (inserted_ascend e xs (x.number + 1) (⊎_elim (λ (lt : x.number < e.number). omega (arith, lt)) (λ (ge : e.number ≤ x.number). absurd (other.0 (omega (arith, le, ge)))) (cases_lt x.number e.number)) other.1 u.1))

all_gives : {A : Type 0} (p q : A → Bool) (xs : List A) → ((x : A) → p x ≡ true → q x ≡ true) → list_all p xs ≡ true → list_all q xs ≡ true
all_gives p q [] gives all = refl
all_gives p q (x ∷ xs) gives all = let a = and_parts (p x) (list_all p xs) all in and_from (q x) (list_all q xs) (gives x a.0) (all_gives p q xs gives a.1)

or_true : (a b : Bool) → b ≡ true → (a || b) ≡ true
or_true true b is = refl
or_true false b is = is

inserted_have : (e : Entry) (es : List Entry) (ds : ℕ) → have_entries es ds ≡ true → have_entries (entries_with e es) ds ≡ true
inserted_have e es ds all = all_gives (has_entry es) (has_entry (entries_with e es)) (elements ds) (λ d has. inserted_has e es d ∙ or_true (eqb e.number d) (has_entry es d) has) all

pub entry_keeps : (r : Status) (e : Entry) → is_entry e ≡ true → has_entry r.entries e.number ≡ false → is_status r ≡ true → is_status (status_with_entry r e) ≡ true
entry_keeps r e fit none ok =
    let p = parts_of r ok in
    parts_are (status_with_entry r e) (record {
      id = p.id;
      epoch = p.epoch;
      turn = p.turn;
      births = p.births;
      holders = p.holders;
      next_holders = p.next_holders;
      directories = p.directories;
      all = inserted_fit e r.entries fit p.all;
      up = inserted_ascend e r.entries 0 (omega arith) none p.up;
      of_holders = inserted_have e r.entries r.holders p.of_holders;
      of_next = inserted_have e r.entries r.next_holders p.of_next;
      of_directories = inserted_have e r.entries r.directories p.of_directories;
    })

-- ---- the loop that puts it in

pub insert_more : (added : Entry) (entries made : List Entry) (i : ℕ) (left entry first second : Entry) → i < length entries → i < length made
    → take i made ++ entries_with left (drop i entries) ≡ entries_with added entries → entry ≡ get_or entries i entry → (first, second) ≡ lower_number_first left entry
    → take (i + 1) (set made i first) ++ entries_with second (drop (i + 1) entries) ≡ entries_with added entries
insert_more added entries made i left entry first second within room so_far read is =
    let rest = entries_with second (drop (i + 1) entries) in
    let pushed : take (i + 1) (set made i first) ++ rest ≡ (take i made ++ first ∷ []) ++ rest = ap (λ (l : List Entry). l ++ rest) (take_more_set made i first room) in
    let split : (take i made ++ first ∷ []) ++ rest ≡ take i made ++ first ∷ rest = joined (take i made) rest in
    let next : suc i ≡ i + 1 = omega arith in
    let here : drop i entries ≡ entry ∷ drop (i + 1) entries = drop_is entries i entry within read ∙ ap (λ (k : ℕ). entry ∷ drop k entries) next in
    let moved : entries_with left (drop i entries) ≡ first ∷ rest = one (drop i entries) (drop (i + 1) entries) here in
    pushed ∙ split ∙ ap (λ (l : List Entry). take i made ++ l) (sym moved) ∙ so_far
  where
    joined : (xs zs : List Entry) → (xs ++ first ∷ []) ++ zs ≡ xs ++ first ∷ zs
    joined [] zs = refl
    joined (x ∷ xs) zs = ap (λ (l : List Entry). x ∷ l) (joined xs zs)

    drop_is : (xs : List Entry) (k : ℕ) (x : Entry) → k < length xs → x ≡ get_or xs k x → drop k xs ≡ x ∷ drop (suc k) xs
    drop_is [] k x lt at = absurd (omega arith)
    drop_is (y ∷ xs) zero x lt at = ap (λ (z : Entry). z ∷ xs) (sym at)
    drop_is (y ∷ xs) (suc k) x lt at = drop_is xs k x (omega arith) at

    one : (xs ys : List Entry) → xs ≡ entry ∷ ys → entries_with left xs ≡ first ∷ entries_with second ys
    one xs ys e = ap (λ (l : List Entry). entries_with left l) e
        ∙ cond_both (ltb left.number entry.number) (left, entry) (entry, left) (λ (o : Entry × Entry). (first, second) ≡ o → entries_with left (entry ∷ ys) ≡ first ∷ entries_with second ys)
        (λ less same. cond-true (ltb left.number entry.number) (left ∷ entries_with entry ys) (entry ∷ entries_with left ys) less ∙ (λ i. (sym same i).0 ∷ entries_with (sym same i).1 ys))
        (λ more same. cond-false (ltb left.number entry.number) (left ∷ entries_with entry ys) (entry ∷ entries_with left ys) more ∙ (λ i. (sym same i).0 ∷ entries_with (sym same i).1 ys))
        is

pub insert_last : (added : Entry) (entries made : List Entry) (i : ℕ) (left : Entry) → length entries ≤ i → i < length made → take i made ++ entries_with left (drop i entries) ≡ entries_with added entries
    → take (i + 1) (set made i left) ≡ entries_with added entries
insert_last added entries made i left past room so_far =
    take_more_set made i left room ∙ ap (λ (l : List Entry). take i made ++ entries_with left l) (sym (none entries i past)) ∙ so_far
  where
    none : (xs : List Entry) (k : ℕ) → length xs ≤ k → drop k xs ≡ []
    none [] zero le = refl
    none [] (suc k) le = refl
    none (x ∷ xs) zero le = absurd (omega arith)
    none (x ∷ xs) (suc k) le = none xs k (omega arith)

-- ---- a disk less

abbrev others : ℕ → List Entry → List Entry
others disk es = filter (λ (e : Entry). not (eqb e.number disk)) es

others_has : (disk : ℕ) (es : List Entry) (d : ℕ) → d ≢ disk → has_entry (others disk es) d ≡ has_entry es d
others_has disk [] d differ = refl
others_has disk (e ∷ es) d differ = by (eqb e.number disk) refl (others_has disk es d differ) where
  by : (b : Bool) → eqb e.number disk ≡ b → has_entry (others disk es) d ≡ has_entry es d → has_entry (cond (not b) (e ∷ others disk es) (others disk es)) d ≡ has_entry (e ∷ es) d
  by true here rest = rest ∙ sym (has_first e es d ∙ ap (λ (b : Bool). b || has_entry es d) (ne_eqb e.number d (λ same. differ (sym same ∙ eqb-true e.number disk here))))
  by false out rest = has_first e (others disk es) d ∙ ap (λ (b : Bool). eqb e.number d || b) rest ∙ sym (has_first e es d)

others_fit : (disk : ℕ) (es : List Entry) → list_all is_entry es ≡ true → list_all is_entry (others disk es) ≡ true
others_fit disk [] all = refl
others_fit disk (e ∷ es) all =
    let a = and_parts (is_entry e) (list_all is_entry es) all in
    cond_both (not (eqb e.number disk)) (e ∷ others disk es) (others disk es) (λ (l : List Entry). list_all is_entry l ≡ true)
    (λ stays. and_from (is_entry e) (list_all is_entry (others disk es)) a.0 (others_fit disk es a.1)) (λ goes. others_fit disk es a.1)

others_ascend : (disk : ℕ) (es : List Entry) (least : ℕ) → ascends_from least (map number_of_entry es) ≡ true → ascends_from least (map number_of_entry (others disk es)) ≡ true
others_ascend disk [] least up = refl
others_ascend disk (e ∷ es) least up =
    let u = and_parts (leb least e.number) (ascends_from (e.number + 1) (map number_of_entry es)) up in
    let low = leb-true least e.number u.0 in
    cond_both (not (eqb e.number disk)) (e ∷ others disk es) (others disk es) (λ (l : List Entry). ascends_from least (map number_of_entry l) ≡ true)
    (λ stays. and_from (leb least e.number) (ascends_from (e.number + 1) (map number_of_entry (others disk es))) u.0 (others_ascend disk es (e.number + 1) u.1))
    (λ goes. weaker (others disk es) least (e.number + 1) (omega (arith, low)) (others_ascend disk es (e.number + 1) u.1))

all_chosen : (p q r : ℕ → Bool) (xs : List ℕ) → ((x : ℕ) → p x ≡ true → q x ≡ true → r x ≡ true) → list_all q (filter p xs) ≡ true → list_all r (filter p xs) ≡ true
all_chosen p q r [] gives all = refl
all_chosen p q r (x ∷ xs) gives all = by (p x) refl (λ h. all_chosen p q r xs gives h) all where
  by : (b : Bool) → p x ≡ b → (list_all q (filter p xs) ≡ true → list_all r (filter p xs) ≡ true) → list_all q (cond b (x ∷ filter p xs) (filter p xs)) ≡ true → list_all r (cond b (x ∷ filter p xs) (filter p xs)) ≡ true
  by true passes rest h = let a = and_parts (q x) (list_all q (filter p xs)) h in and_from (r x) (list_all r (filter p xs)) (gives x passes a.0) (rest a.1)
  by false fails rest h = rest h

others_have : (disk : ℕ) (es : List Entry) (ds : ℕ) → (has_bit ds disk ≡ true → ⊥) → have_entries es ds ≡ true → have_entries (others disk es) ds ≡ true
unfolding elements
others_have disk es ds out all = all_chosen (has_bit ds) (has_entry es) (has_entry (others disk es)) (range_with_len 0 64)
    (λ d bit has. others_has disk es d (λ same. out (ap (has_bit ds) (sym same) ∙ bit)) ∙ has) all

pub without_keeps : (r : Status) (disk : ℕ) → (IsInSomeSet r disk → ⊥) → is_status r ≡ true → is_status (status_without_entry r disk) ≡ true
without_keeps r disk out ok =
    let p = parts_of r ok in
    parts_are (status_without_entry r disk) (record {
      id = p.id;
      epoch = p.epoch;
      turn = p.turn;
      births = p.births;
      holders = p.holders;
      next_holders = p.next_holders;
      directories = p.directories;
      all = others_fit disk r.entries p.all;
      up = others_ascend disk r.entries 0 p.up;
      of_holders = others_have disk r.entries r.holders (λ bit. out (inl bit)) p.of_holders;
      of_next = others_have disk r.entries r.next_holders (λ bit. out (inr (inl bit))) p.of_next;
      of_directories = others_have disk r.entries r.directories (λ bit. out (inr (inr bit))) p.of_directories;
    })

pub others_more : (disk : ℕ) (xs : List Entry) (i : ℕ) (x : Entry) → i < length xs → x ≡ get_or xs i x → others disk (take (i + 1) xs) ≡ others disk (take i xs) ++ others disk (x ∷ [])
others_more disk xs i x within read = ap (others disk) (take_more xs i x within ∙ ap (λ (z : Entry). take i xs ++ z ∷ []) (sym read)) ∙ joined (take i xs)
  where
    joined : (ys : List Entry) → others disk (ys ++ x ∷ []) ≡ others disk ys ++ others disk (x ∷ [])
    joined [] = refl
    joined (y ∷ ys) = by (not (eqb y.number disk)) (joined ys) where
      by : (b : Bool) → others disk (ys ++ x ∷ []) ≡ others disk ys ++ others disk (x ∷ []) → cond b (y ∷ others disk (ys ++ x ∷ [])) (others disk (ys ++ x ∷ [])) ≡ cond b (y ∷ others disk ys) (others disk ys) ++ others disk (x ∷ [])
      by true rest = ap (λ (l : List Entry). y ∷ l) rest
      by false rest = rest

-- ---- a failure group's number

-- the entries of other failure groups
abbrev elsewhere : ℕ → List Entry → List Entry
elsewhere n es = filter (λ (e : Entry). not (eqb e.failgroup n)) es

elsewhere_few : (n : ℕ) (es : List Entry) → length (elsewhere n es) ≤ length es
elsewhere_few n [] = omega arith
elsewhere_few n (e ∷ es) = cond_both (not (eqb e.failgroup n)) (e ∷ elsewhere n es) (elsewhere n es) (λ (l : List Entry). length l ≤ suc (length es))
    (λ stays. omega (arith, elsewhere_few n es)) (λ goes. omega (arith, elsewhere_few n es))

elsewhere_fewer : (n : ℕ) (es : List Entry) → has_failgroup es n ≡ true → length (elsewhere n es) < length es
elsewhere_fewer n [] has = absurd (false≢true has)
elsewhere_fewer n (e ∷ es) has = by (eqb e.failgroup n) (λ h. elsewhere_fewer n es h) has where
  by : (b : Bool) → (has_failgroup es n ≡ true → length (elsewhere n es) < length es) → (b || has_failgroup es n) ≡ true → length (cond (not b) (e ∷ elsewhere n es) (elsewhere n es)) < suc (length es)
  by true fewer h = omega (arith, elsewhere_few n es)
  by false fewer h = omega (arith, fewer h)

elsewhere_has : (n : ℕ) (es : List Entry) (d : ℕ) → d ≢ n → has_failgroup (elsewhere n es) d ≡ has_failgroup es d
elsewhere_has n [] d differ = refl
elsewhere_has n (e ∷ es) d differ = by (eqb e.failgroup n) refl (elsewhere_has n es d differ) where
  by : (b : Bool) → eqb e.failgroup n ≡ b → has_failgroup (elsewhere n es) d ≡ has_failgroup es d → has_failgroup (cond (not b) (e ∷ elsewhere n es) (elsewhere n es)) d ≡ (eqb e.failgroup d || has_failgroup es d)
  by true here rest = rest ∙ sym (ap (λ (b : Bool). b || has_failgroup es d) (ne_eqb e.failgroup d (λ same. differ (sym same ∙ eqb-true e.failgroup n here))))
  by false out rest = ap (λ (b : Bool). eqb e.failgroup d || b) rest

-- so many numbers have as many entries
enough_entries : (k : ℕ) (es : List Entry) → ((d : ℕ) → d < k → has_failgroup es d ≡ true) → k ≤ length es
enough_entries zero es all = omega arith
enough_entries (suc k) es all =
    let rest = enough_entries k (elsewhere k es) (λ d lt. elsewhere_has k es d (λ same. omega (arith, lt, same)) ∙ all d (omega arith)) in
    omega (arith, rest, elsewhere_fewer k es (all k (omega arith)))

free_when : (tries n : ℕ) (es : List Entry) → n + tries ≡ length es → ((d : ℕ) → d < n → has_failgroup es d ≡ true) → has_failgroup es (free_from tries n es) ≡ false
free_when zero n es all below = by (has_failgroup es n) refl where
  by : (b : Bool) → has_failgroup es n ≡ b → has_failgroup es n ≡ false
  by false free = free
  by true taken = absurd (omega (arith, all, enough_entries (suc n) es (λ d lt. ⊎_elim (λ (less : d < n). below d less) (λ (ge : n ≤ d). ap (has_failgroup es) (omega (arith, lt, ge)) ∙ taken) (cases_lt d n))))
free_when (suc tries) n es all below = by (has_failgroup es n) refl (λ next. free_when tries (n + 1) es (omega (arith, all)) next) where
  by : (b : Bool) → has_failgroup es n ≡ b → (((d : ℕ) → d < n + 1 → has_failgroup es d ≡ true) → has_failgroup es (free_from tries (n + 1) es) ≡ false)
      → has_failgroup es (free_from (suc tries) n es) ≡ false
  by true taken rest = ap (has_failgroup es) (cond-true (has_failgroup es n) (free_from tries (n + 1) es) n taken)
      ∙ rest (λ d lt. ⊎_elim (λ (less : d < n). below d less) (λ (ge : n ≤ d). ap (has_failgroup es) (omega (arith, lt, ge)) ∙ taken) (cases_lt d n))
  by false free rest = ap (has_failgroup es) (cond-false (has_failgroup es n) (free_from tries (n + 1) es) n free) ∙ free

pub least_is_free : (es : List Entry) → has_failgroup es (least_free_failgroup es) ≡ false
least_is_free es = free_when (length es) 0 es (omega arith) (λ d lt. absurd (omega arith))

-- ---- the loop that tries the numbers

pub tried_more : (es : List Entry) (n least : ℕ) → n < length es → has_failgroup es n ≡ true → free_from (length es - n) n es ≡ least → free_from (length es - (n + 1)) (n + 1) es ≡ least
tried_more es n least lt taken so_far =
    sym (ap (λ (k : ℕ). free_from k n es) (tries (length es) n lt) ∙ cond-true (has_failgroup es n) (free_from (length es - (n + 1)) (n + 1) es) n taken) ∙ so_far
  where
    tries : (many k : ℕ) → k < many → many - k ≡ suc (many - (k + 1))
    tries many k less = omega arith

pub last_free : (es fs : List Entry) (n : ℕ) → fs ≡ es → length fs ≤ n → n ≤ length fs → free_from (length fs - n) n fs ≡ least_free_failgroup fs → has_failgroup es (length fs) ≡ false
last_free es fs n same low high so_far =
    let none : length fs - n ≡ 0 = omega arith in
    let least : n ≡ least_free_failgroup fs = sym (ap (λ (k : ℕ). free_from k n fs) none) ∙ so_far in
    subst (λ (l : List Entry). has_failgroup l (length fs) ≡ false) same (ap (has_failgroup fs) (omega (arith, least)) ∙ least_is_free fs)
