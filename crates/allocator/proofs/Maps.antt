-- The words and the map that they stand for.
use Rattle.std.proofs.Common.{◌≡◌, ℕ, zero, suc, ◌+◌, ◌-◌, ◌*◌, ◌/◌, ◌%◌, ◌^◌, ◌<◌, ◌≤◌, Bool, true, false, cond, leb, List, ◌∷◌, ◌++◌, length, map, take, drop, replicate, get_or, refl, sym, ap, ◌∙◌, arith, inl, inr, ◌⊎◌, min, Option, Some, None}
use Rattle.std.specs.Prelude.{not, ◌&&◌, IsTrue, ◌↔◌, MatchOption, count_by, is_some}
use Rattle.std.proofs.lemmas.Nat.{div_below}
use Rattle.std.proofs.lemmas.Nat.Bits.{bit_at-zero}
use Rattle.std.specs.Bool.{OnTrue, OnFalse}
use Rattle.std.specs.List.{sum_by, range_with_len}
use Rattle.std.proofs.lemmas.List.Sums.{sum_by-append, sum_by-cons, sum_by-take-drop, count_by-le-length}
use Rattle.std.proofs.lemmas.List.Folds.{sum_by-replicate}
use Rattle.std.proofs.lemmas.Bool.{cases_lt, true≢false, le-leb, lt-leb, lt-ltb, le-ltb}
use Rattle.std.proofs.lemmas.List.{length-take, length-drop, length-append, length-replicate, get_or_append_left, get_or-append_right, get_or-take, get_or-drop, get_or-replicate, same_lists, drop-drop, get_or_default}
use Rattle.std.proofs.lemmas.List.FromFn.{get_or-map-range_with_len, length-map-range_with_len}
use Rattle.allocator.specs.Words.{is_set, IsFreeIn, IsFirst, IsLowestIn, SetsRun, AreFresh, is_within}
use Rattle.allocator.specs.UnitMaps.{UnitMap, is_free, IsFreeRun, HasNoRun, IsLowestRun, IsUsedRun, with_run, used_of, unused}
use Rattle.allocator.specs.Sound.{used_list, AreSound}
use Rattle.allocator.proofs.Runs.{past_end}

abbrev pub map_from : ℕ → ℕ → List ℕ → UnitMap
map_from first units words = record { first = first; units = units; used = used_list first words units }

and_false : (b : Bool) → (b && false) ≡ false
and_false true = refl
and_false false = refl

pub past_is : (first units from : ℕ) (words : List ℕ) → AreSound first units from words → (k : ℕ) → units ≤ k → is_set words k ≡ true
past_is first units from words sound k beyond = elim (cases_lt k (64 * length words)) [
  | inl inside ↦ sound.past k beyond inside
  | inr past ↦ past_end words k past
]

-- a unit is free exactly where its bit isn't set
pub free_is : (first units from : ℕ) (words : List ℕ) → AreSound first units from words → (k : ℕ) → is_free (map_from first units words) k ≡ not (is_set words k)
free_is first units from words sound k = elim (cases_lt k first) [
  | inl below ↦ rw (lt-leb first k below, sound.reserved k (omega arith) below) refl
  | inr user ↦ elim (cases_lt k units) [
    | inl inside ↦
        let used : get_or (used_list first words units) k true ≡ (leb first k && is_set words k) = get_or-map-range_with_len (λ u. leb first u && is_set words u) 0 units k k true inside (omega arith) in
        rw (used, le-leb first k user, lt-ltb k units inside) refl
    | inr beyond ↦ rw (le-ltb k units beyond, past_is first units from words sound k beyond, and_false (leb first k)) refl
  ]
]

not_true : (b : Bool) → not b ≡ true → b ≡ false
not_true true e = absurd cc
not_true false e = refl

pub run_in_words : (first units from : ℕ) (words : List ℕ) → AreSound first units from words → (at n : ℕ) → IsFreeRun (map_from first units words) at n → IsFreeIn words at n
run_in_words first units from words sound at n free k low high = not_true (is_set words k) (sym (free_is first units from words sound k) ∙ free k low high)

pub run_of_words : (first units from : ℕ) (words : List ℕ) → AreSound first units from words → (at n : ℕ) → IsFreeIn words at n → IsFreeRun (map_from first units words) at n
run_of_words first units from words sound at n free k low high = free_is first units from words sound k ∙ ap not (free k low high)

-- what is found in the words is found in the map
pub lowest_is : (first units from : ℕ) (words : List ℕ) → AreSound first units from words → (n : ℕ) (found : Option ℕ)
    → MatchOption found ((b : ℕ) → IsFreeIn words b n → ⊥) (IsLowestIn words n)
    → MatchOption found (HasNoRun (map_from first units words) n) (IsLowestRun (map_from first units words) n)
lowest_is first units from words sound n None none = λ b free. none b (run_in_words first units from words sound b n free)
lowest_is first units from words sound n (Some at) lowest = record {
  free = run_of_words first units from words sound at n lowest.free;
  lowest = λ b lt free. lowest.lowest b lt (run_in_words first units from words sound b n free);
}

-- a free run lies in the user units
pub run_inside : (first units from : ℕ) (words : List ℕ) → AreSound first units from words → (at n : ℕ) → 0 < n → IsFreeIn words at n → (first ≤ at) × (at + n ≤ units)
run_inside first units from words sound at n some free = (
  elim (cases_lt at first) [
    | inl reserved ↦ absurd (true≢false (sym (sound.reserved at (omega arith) reserved) ∙ free at (omega arith) (omega arith)))
    | inr user ↦ user
  ],
  elim (cases_lt units (at + n)) [
    | inl over ↦ absurd (true≢false (sym (past_is first units from words sound (at + n - 1) (omega arith)) ∙ free (at + n - 1) (omega arith) (omega arith)))
    | inr inside ↦ inside
  ],
)

-- ---- a run that is set

-- an element of a list of which a run was replaced
replaced : (xs : List Bool) (at n : ℕ) (used : Bool) (k : ℕ) (d : Bool) → at + n ≤ length xs → get_or (take at xs ++ replicate n used ++ drop (at + n) xs) k d ≡ cond (is_within at n k) used (get_or xs k d)
replaced xs at n used k d fits =
    let front : length (take at xs) ≡ at = omega (arith, length-take at xs) in
    let two : length (take at xs ++ replicate n used) ≡ at + n = omega (arith, length-append (take at xs) (replicate n used), front, length-replicate n used) in
    elim (cases_lt k at) [
      | inl before ↦ rw (lt-leb at k before) (get_or_append_left (take at xs ++ replicate n used) (drop (at + n) xs) d k (omega arith) ∙ get_or_append_left (take at xs) (replicate n used) d k (omega arith) ∙ get_or-take at xs k d before)
      | inr from ↦ elim (cases_lt k (at + n)) [
        | inl inside ↦ rw (le-leb at k from, lt-ltb k (at + n) inside) (get_or_append_left (take at xs ++ replicate n used) (drop (at + n) xs) d k (omega arith) ∙ get_or-append_right (take at xs) (replicate n used) at k d front from ∙ get_or-replicate n (k - at) used d (omega arith))
        | inr behind ↦
            let e : at + n + (k - (at + n)) ≡ k = omega arith in
            rw (le-leb at k from, le-ltb k (at + n) behind) (get_or-append_right (take at xs ++ replicate n used) (drop (at + n) xs) (at + n) k d two behind ∙ get_or-drop (at + n) xs (k - (at + n)) d ∙ ap (λ (j : ℕ). get_or xs j d) e)
      ]
    ]

-- the map of the words of which a run was set
pub map_set : (first units from : ℕ) (old new : List ℕ) (at n : ℕ) (used : Bool) → first ≤ at → at + n ≤ units → SetsRun old new at n used → map_from first units new ≡ with_run (map_from first units old) at n used
map_set first units from old new at n used low high sets =
    let xs = used_list first old units in
    let len : length xs ≡ units = length-map-range_with_len (λ u. leb first u && is_set old u) 0 units in
    let len_new : length (used_list first new units) ≡ units = length-map-range_with_len (λ u. leb first u && is_set new u) 0 units in
    let len_with : length (take at xs ++ replicate n used ++ drop (at + n) xs) ≡ units =
    omega (arith, length-append (take at xs ++ replicate n used) (drop (at + n) xs), length-append (take at xs) (replicate n used), length-take at xs, length-replicate n used, length-drop (at + n) xs, len) in
    let same : used_list first new units ≡ take at xs ++ replicate n used ++ drop (at + n) xs =
    same_lists (used_list first new units) (take at xs ++ replicate n used ++ drop (at + n) xs) (len_new ∙ sym len_with) (λ k d lt.
    let inside : k < units = omega (arith, lt, len_new) in
    let is_new = get_or-map-range_with_len (λ u. leb first u && is_set new u) 0 units k k d inside (omega arith) in
    let is_old = get_or-map-range_with_len (λ u. leb first u && is_set old u) 0 units k k d inside (omega arith) in
    is_new ∙ chosen k ∙ sym (replaced xs at n used k d (omega arith) ∙ ap (λ (b : Bool). cond (is_within at n k) used b) is_old)) in
    ap (λ (list : List Bool). record { first = first; units = units; used = list }) same
  where
    user : (k : ℕ) → (leb first k && cond (is_within at n k) used (is_set old k)) ≡ cond (is_within at n k) used (leb first k && is_set old k)
    user k = elim (cases_lt k at) [
      | inl before ↦ rw (lt-leb at k before) refl
      | inr from ↦ rw (le-leb first k (omega arith)) refl
    ]

    chosen : (k : ℕ) → (leb first k && is_set new k) ≡ cond (is_within at n k) used (leb first k && is_set old k)
    chosen k = ap (λ (b : Bool). leb first k && b) (sets.units k) ∙ user k

-- ---- what stays sound

pub sound_used : (first units from : ℕ) (old new : List ℕ) (at n : ℕ) → AreSound first units from old → SetsRun old new at n true → AreSound first units from new
sound_used first units from old new at n sound sets = record {
  room = omega (arith, sound.room, sets.length_same);
  few = omega (arith, sound.few, sets.length_same);
  reserved = λ k low high. stays k (sound.reserved k low high);
  past = λ k low high. stays k (sound.past k low (omega (arith, high, sets.length_same)));
  full = λ k low high. stays k (sound.full k low high);
  low = omega (arith, sound.low, sets.length_same);
} where
  either : (b c : Bool) → c ≡ true → cond b true c ≡ true
  either true c e = refl
  either false c e = e

  stays : (k : ℕ) → is_set old k ≡ true → is_set new k ≡ true
  stays k e = sets.units k ∙ either (is_within at n k) (is_set old k) e

-- a unit outside a run stays
stays_outside : (old new : List ℕ) (at n : ℕ) (used : Bool) (k : ℕ) → SetsRun old new at n used → (k < at) ⊎ (at + n ≤ k) → is_set new k ≡ is_set old k
stays_outside old new at n used k sets (inl below) = sets.units k ∙ rw (lt-leb at k below) refl
stays_outside old new at n used k sets (inr behind) = sets.units k ∙ rw (le-ltb k (at + n) behind, and_false (leb at k)) refl

pub sound_free : (first units from : ℕ) (old new : List ℕ) (at n : ℕ) → AreSound first units from old → SetsRun old new at n false → first ≤ at → at + n ≤ units → AreSound first units (min from at) new
sound_free first units from old new at n sound sets low high = record {
  room = omega (arith, sound.room, sets.length_same);
  few = omega (arith, sound.few, sets.length_same);
  reserved = λ k ge lt. stays_outside old new at n false k sets (inl (omega arith)) ∙ sound.reserved k ge lt;
  past = λ k ge lt. stays_outside old new at n false k sets (inr (omega arith)) ∙ sound.past k ge (omega (arith, lt, sets.length_same));
  full = λ k ge lt. stays_outside old new at n false k sets (inl (omega arith)) ∙ sound.full k ge (omega arith);
  low = omega (arith, sound.low, sets.length_same);
}

-- ---- counts

abbrev one : Bool → ℕ
one b = cond b 1 0

-- what a list counts where a run of it was replaced
pub count_replaced : (xs : List Bool) (at n : ℕ) (old new : Bool) → at + n ≤ length xs → ((k : ℕ) → at ≤ k → k < at + n → get_or xs k false ≡ old)
    → count_by (λ x. x) (take at xs ++ replicate n new ++ drop (at + n) xs) + n * one old ≡ count_by (λ x. x) xs + n * one new
count_replaced xs at n old new fits is =
    let middle : take n (drop at xs) ≡ replicate n old =
    same_lists (take n (drop at xs)) (replicate n old) (omega (arith, length-take n (drop at xs), length-drop at xs, length-replicate n old)) (λ k d lt.
    let inside : k < n = omega (arith, lt, length-take n (drop at xs)) in
    get_or-take n (drop at xs) k d inside ∙ get_or-drop at xs k d ∙ get_or_default xs (at + k) d false (omega arith) ∙ is (at + k) (omega arith) (omega arith) ∙ sym (get_or-replicate n k old d inside)) in
    let parts = sum_by-take-drop one xs at in
    let rest = sum_by-take-drop one (drop at xs) n in
    let counted_middle : sum_by one (take n (drop at xs)) ≡ n * one old = ap (sum_by one) middle ∙ sum_by-replicate one n old in
    let behind : sum_by one (drop n (drop at xs)) ≡ sum_by one (drop (at + n) xs) = ap (sum_by one) (drop-drop n at xs) in
    let whole : sum_by one (take at xs ++ replicate n new ++ drop (at + n) xs) ≡ sum_by one (take at xs) + n * one new + sum_by one (drop (at + n) xs) =
    sum_by-append one (take at xs ++ replicate n new) (drop (at + n) xs) ∙ ap (λ (m : ℕ). m + sum_by one (drop (at + n) xs)) (sum_by-append one (take at xs) (replicate n new) ∙ ap (λ (m : ℕ). sum_by one (take at xs) + m) (sum_by-replicate one n new)) in
    omega (arith, parts, rest, counted_middle, behind, whole)

-- whether a run is found says whether there is one
pub room_found : (m : UnitMap) (n : ℕ) (found : Option ℕ) (b : Bool) → MatchOption found (HasNoRun m n) (IsLowestRun m n) → b ≡ is_some found → OnTrue b ((at : ℕ) × IsFreeRun m at n)
room_found m n (Some at) true lowest e = (at, lowest.free)
room_found m n (Some at) false lowest e = absurd cc
room_found m n None true lowest e = absurd cc
room_found m n None false lowest e = tt

-- ---- a run that is used, or given back

pub used_at : (first units : ℕ) (words : List ℕ) (k : ℕ) → k < units → first ≤ k → get_or (used_list first words units) k false ≡ is_set words k
used_at first units words k inside user = get_or-map-range_with_len (λ u. leb first u && is_set words u) 0 units k k false inside (omega arith) ∙ rw (le-leb first k user) refl

pub used_at_most : (first units : ℕ) (words : List ℕ) → used_of (map_from first units words) ≤ units
used_at_most first units words = omega (arith, count_by-le-length (λ b. b) (used_list first words units), length-map-range_with_len (λ u. leb first u && is_set words u) 0 units)

-- what the words, the map and the count are after a change of a run
pub record Changed (first units from : ℕ) (old new : List ℕ) (at n : ℕ) (used : Bool) (count : ℕ) : Type 0 where
  pub made : map_from first units new ≡ with_run (map_from first units old) at n used
  pub sound : AreSound first units from new
  pub counted : count ≡ used_of (map_from first units new)

pub use_is : (first units from : ℕ) (old new : List ℕ) (at n count : ℕ) → AreSound first units from old → 0 < n → IsFreeRun (map_from first units old) at n → SetsRun old new at n true → count ≡ used_of (map_from first units old) → Changed first units from old new at n true (count + n)
use_is first units from old new at n count sound some free sets counted =
    let run = run_in_words first units from old sound at n free in
    let inside = run_inside first units from old sound at n some run in
    let made = map_set first units from old new at n true inside.0 inside.1 sets in
    let len = length-map-range_with_len (λ u. leb first u && is_set old u) 0 units in
    let change = count_replaced (used_list first old units) at n false true (omega (arith, len, inside.1)) (λ k low high. used_at first units old k (omega (arith, inside.1)) (omega (arith, inside.0)) ∙ run k low high) in
    record {
      made = made;
      sound = sound_used first units from old new at n sound sets;
      counted = omega (arith, change, counted, ap used_of made);
    }

pub give_is : (first units from : ℕ) (old new : List ℕ) (at n count : ℕ) → AreSound first units from old → IsUsedRun (map_from first units old) at n → SetsRun old new at n false → count ≡ used_of (map_from first units old) → (n ≤ count) × Changed first units (min from at) old new at n false (count - n)
give_is first units from old new at n count sound run sets counted =
    let made = map_set first units from old new at n false run.low run.high sets in
    let len = length-map-range_with_len (λ u. leb first u && is_set old u) 0 units in
    let change = count_replaced (used_list first old units) at n true false (omega (arith, len, run.high)) run.used in (
      omega (arith, change, counted),
      record {
        made = made;
        sound = sound_free first units from old new at n sound sets run.low run.high;
        counted = omega (arith, change, counted, ap used_of made);
      },
    )

-- what the words say of a run, the map says
pub free_run_is : (first units from : ℕ) (words : List ℕ) → AreSound first units from words → (at n : ℕ) (b : Bool) → OnTrue b (IsFreeIn words at n) → OnFalse b (IsFreeIn words at n → ⊥) → IsTrue b ↔ IsFreeRun (map_from first units words) at n
free_run_is first units from words sound at n true free used = (λ t. run_of_words first units from words sound at n free, λ run. refl)
free_run_is first units from words sound at n false free used = (λ t. absurd (true≢false (sym t)), λ run. absurd (used (run_in_words first units from words sound at n run)))

-- ---- a fresh disk

zeros_free : (count k : ℕ) → k < 64 * count → is_set (replicate count 0) k ≡ false
unfolding is_set
zeros_free count k inside =
    let zeros : List ℕ = replicate count 0 in
    let word : get_or zeros (k / 64) 18446744073709551615 ≡ 0 = get_or-replicate count (k / 64) 0 18446744073709551615 (div_below k 64 count (omega arith) (omega arith)) in
    rw (word, bit_at-zero (k % 64)) refl

pub fresh_is : (first units count : ℕ) (mid new : List ℕ) → units ≤ 64 * count → 64 * count < 2 ^ 32 → SetsRun (replicate count 0) mid 0 (min first units) true → SetsRun mid new units (count * 64 - units) true → AreFresh first units new
fresh_is first units count mid new room few reserved past =
    let len : length new ≡ count = omega (arith, past.length_same, reserved.length_same, length-replicate {A = ℕ} count 0) in
    record {
      room = omega (arith, len);
      few = omega (arith, len);
      bits = λ k. elim (cases_lt k (64 * count)) [
        | inl inside ↦ past.units k ∙ elim (cases_lt k units) [
          | inl user ↦ rw (lt-leb units k user, reserved.units k) (elim (cases_lt k first) [
            | inl low ↦ rw (lt-leb first k low, le-leb 0 k (omega arith), lt-ltb k (0 + min first units) (omega arith)) refl
            | inr high ↦ rw (le-leb first k high, lt-ltb k units user, le-leb 0 k (omega arith), le-ltb k (0 + min first units) (omega arith)) (zeros_free count k inside)
          ])
          | inr beyond ↦ rw (le-leb units k beyond, lt-ltb k (units + (count * 64 - units)) (omega arith), le-ltb k units beyond, and_false (leb first k)) refl
        ]
        | inr outside ↦ rw (le-ltb k units (omega arith), and_false (leb first k)) (past_end new k (omega (arith, len)))
      ];
    }

pub fresh_sound : (first units : ℕ) (words : List ℕ) → AreFresh first units words → AreSound first units 0 words
fresh_sound first units words fresh = record {
  room = fresh.room;
  few = fresh.few;
  reserved = λ k low high. fresh.bits k ∙ rw (lt-leb first k high) refl;
  past = λ k low high. fresh.bits k ∙ rw (le-ltb k units low, and_false (leb first k)) refl;
  full = λ k low high. absurd (omega arith);
  low = omega arith;
}

pub fresh_map : (first units : ℕ) (words : List ℕ) → AreFresh first units words → map_from first units words ≡ unused first units
fresh_map first units words fresh =
    let f = λ (u : ℕ). leb first u && is_set words u in
    let same : used_list first words units ≡ replicate units false =
    same_lists (used_list first words units) (replicate units false) (length-map-range_with_len f 0 units ∙ sym (length-replicate units false)) (λ k d lt.
    let inside : k < units = omega (arith, lt, length-map-range_with_len f 0 units) in
    get_or-map-range_with_len f 0 units k k d inside (omega arith) ∙ none k inside ∙ sym (get_or-replicate units k false d inside)) in
    ap (λ (list : List Bool). record { first = first; units = units; used = list }) same
  where
    none : (k : ℕ) → k < units → (leb first k && is_set words k) ≡ false
    none k inside = elim (cases_lt k first) [
      | inl low ↦ rw (lt-leb first k low) refl
      | inr high ↦ rw (fresh.bits k, le-leb first k high, lt-ltb k units inside) refl
    ]

pub fresh_count : (first units : ℕ) (words : List ℕ) → AreFresh first units words → 0 ≡ used_of (map_from first units words)
fresh_count first units words fresh = sym (ap used_of (fresh_map first units words fresh) ∙ sum_by-replicate one units false ∙ omega arith)

-- ---- the first free unit is remembered

-- all before it is used
pub sound_from : (first units before from : ℕ) (words : List ℕ) → AreSound first units before words → IsFirst false words before (64 * length words) from → AreSound first units from words
sound_from first units before from words sound free = record {
  room = sound.room;
  few = sound.few;
  reserved = sound.reserved;
  past = sound.past;
  full = λ k low high. elim (cases_lt k before) [
    | inl old ↦ sound.full k low old
    | inr new ↦ free.before k new high
  ];
  low = free.high;
}

-- ---- how many units are used

-- of a range that reaches below the first user unit
few_used : (test : ℕ → Bool) (first n a : ℕ) → a ≤ first → ((k : ℕ) → k < first → test k ≡ false) → count_by (λ used. used) (map test (range_with_len a n)) ≤ a + n - first
few_used test first zero a low none = omega arith
few_used test first (suc n) a low none =
    let rest : List Bool = map test (range_with_len (a + 1) n) in
    let more : count_by (λ used. used) (test a ∷ rest) ≡ one (test a) + count_by (λ used. used) rest = sum_by-cons one (test a) rest in
    elim (cases_lt a first) [
      | inl below ↦
          let counts_not : one (test a) ≡ 0 = ap one (none a below) in
          let later : count_by (λ used. used) rest ≤ a + 1 + n - first = few_used test first n (a + 1) (omega arith) none in
          omega (arith, more, counts_not, later)
      | inr from ↦
          let all : count_by (λ used. used) (test a ∷ rest) ≤ length (test a ∷ rest) = count_by-le-length (λ used. used) (test a ∷ rest) in
          let long : length rest ≡ n = length-map-range_with_len test (a + 1) n in
          omega arith
    ]

pub used_few : (first units : ℕ) (words : List ℕ) → used_of (map_from first units words) ≤ units - first
used_few first units words =
    let few : used_of (map_from first units words) ≤ 0 + units - first = few_used (λ k. leb first k && is_set words k) first units 0 (omega arith) (λ k below. rw (lt-leb first k below) refl) in
    omega arith
