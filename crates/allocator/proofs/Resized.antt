-- Words of a disk with another number of units, and how many units are used.
use Rattle.std.proofs.Common.{◌≡◌, ℕ, zero, suc, ◌+◌, ◌-◌, ◌*◌, ◌/◌, ◌%◌, ◌^◌, ◌<◌, ◌≤◌, Bool, true, false, cond, leb, ltb, List, ◌∷◌, ◌++◌, length, map, take, replicate, get_or, refl, sym, ap, ◌∙◌, arith, inl, inr, min, max}
use Rattle.std.specs.Prelude.{not, ◌&&◌, IsTrue, ◌↔◌, count_by}
use Rattle.std.specs.Bool.{OnTrue, OnFalse}
use Rattle.std.specs.List.{range_with_len}
use Rattle.std.proofs.lemmas.Nat.{div_below}
use Rattle.std.proofs.lemmas.Nat.Bits.{bit_at-zero}
use Rattle.std.proofs.lemmas.List.Sums.{sum_by-cons, count_by-le-length}
use Rattle.std.proofs.lemmas.Bool.{cases_lt, true≢false, le-leb, lt-leb, lt-ltb, le-ltb}
use Rattle.std.proofs.lemmas.List.{length-take, length-append, length-replicate, get_or_append_left, get_or-append_right, get_or-take, get_or-replicate, get_or_past, same_lists}
use Rattle.std.proofs.lemmas.List.FromFn.{get_or-map-range_with_len, length-map-range_with_len, length-range_with_len}
use Rattle.allocator.specs.Words.{is_set, AllAre, AreResized, IsFreeIn, IsFirst, SetsRun, is_within, used_between}
use Rattle.allocator.specs.UnitMaps.{UnitMap, IsUnusedFrom, with_unit_count, used_of}
use Rattle.allocator.specs.Sound.{used_list, AreSound}
use Rattle.allocator.proofs.Maps.{map_from, past_is, used_at}
use Rattle.allocator.proofs.Runs.{past_end}

abbrev one : Bool → ℕ
one b = cond b 1 0

and_false : (b : Bool) → (b && false) ≡ false
and_false true = refl
and_false false = refl

-- ---- how many are used

-- of a run all of which is as said
count_run : (used : Bool) (words : List ℕ) (a n : ℕ) → AllAre used words a (a + n) → count_by (is_set words) (range_with_len a n) ≡ n * one used
count_run used words a zero all = none used where
  none : (b : Bool) → 0 ≡ 0 * one b
  none true = refl
  none false = refl
count_run used words a (suc n) all =
    let rest = count_run used words (a + 1) n (λ k low high. all k (omega (arith, low)) (omega (arith, high))) in
    let here : one (is_set words a) ≡ one used = ap one (all a (omega arith) (omega arith)) in
    sum_by-cons (λ (k : ℕ). one (is_set words k)) a (range_with_len (a + 1) n) ∙ rw (here, rest) (more used n)
  where
    more : (b : Bool) (m : ℕ) → one b + m * one b ≡ suc m * one b
    more true m = omega arith
    more false m = omega arith

count_parts : (p : ℕ → Bool) (a n m : ℕ) → count_by p (range_with_len a (n + m)) ≡ count_by p (range_with_len a n) + count_by p (range_with_len (a + n) m)
count_parts p a zero m =
    let e : 0 + m ≡ m = omega arith in
    let here : a + 0 ≡ a = omega arith in
    rw (e, here) (omega arith)
count_parts p a (suc n) m =
    let long : suc n + m ≡ suc (n + m) = omega arith in
    let whole : count_by p (range_with_len a (suc n + m)) ≡ count_by p (range_with_len a (suc (n + m))) = ap (λ (x : ℕ). count_by p (range_with_len a x)) long in
    let rest = count_parts p (a + 1) n m in
    let e : a + 1 + n ≡ a + suc n = omega arith in
    let behind : count_by p (range_with_len (a + 1 + n) m) ≡ count_by p (range_with_len (a + suc n) m) = ap (λ (b : ℕ). count_by p (range_with_len b m)) e in
    omega (arith, whole, sum_by-cons (λ (k : ℕ). one (p k)) a (range_with_len (a + 1) (n + m)), sum_by-cons (λ (k : ℕ). one (p k)) a (range_with_len (a + 1) n), rest, behind)

pub count_more : (used : Bool) (words : List ℕ) (from at to : ℕ) → from ≤ at → at ≤ to → AllAre used words at to → used_between words from to ≡ used_between words from at + (to - at) * one used
count_more used words from at to low high all =
    let n : ℕ = at - from in
    let m : ℕ = to - at in
    let whole : to - from ≡ n + m = omega arith in
    let mid : from + n ≡ at = omega arith in
    let end : at + m ≡ to = omega arith in
    ap (λ (x : ℕ). count_by (is_set words) (range_with_len from x)) whole ∙ count_parts (is_set words) from n m
    ∙ ap (λ (x : ℕ). used_between words from at + x) (ap (λ (x : ℕ). count_by (is_set words) (range_with_len x m)) mid ∙ count_run used words at m (λ k ge lt. all k ge (omega (arith, lt))))

pub count_none : (words : List ℕ) (from : ℕ) → used_between words from from ≡ 0
count_none words from = let e : from - from ≡ 0 = omega arith in rw e refl

pub count_few : (words : List ℕ) (from to : ℕ) → used_between words from to ≤ to - from
count_few words from to = omega (arith, count_by-le-length (is_set words) (range_with_len from (to - from)), length-range_with_len from (to - from))

-- what is used of a map is what the words say of its user units
count_below : (test : ℕ → Bool) (a n : ℕ) → ((k : ℕ) → a ≤ k → k < a + n → test k ≡ false) → count_by (λ used. used) (map test (range_with_len a n)) ≡ 0
count_below test a zero none = refl
count_below test a (suc n) none =
    let here : one (test a) ≡ 0 = ap one (none a (omega arith) (omega arith)) in
    let rest = count_below test (a + 1) n (λ k low high. none k (omega (arith, low)) (omega (arith, high))) in
    omega (arith, sum_by-cons one (test a) (map test (range_with_len (a + 1) n)), here, rest)

count_same : (test p : ℕ → Bool) (a n : ℕ) → ((k : ℕ) → a ≤ k → k < a + n → test k ≡ p k) → count_by (λ used. used) (map test (range_with_len a n)) ≡ count_by p (range_with_len a n)
count_same test p a zero same = refl
count_same test p a (suc n) same =
    let here : one (test a) ≡ one (p a) = ap one (same a (omega arith) (omega arith)) in
    let rest = count_same test p (a + 1) n (λ k low high. same k (omega (arith, low)) (omega (arith, high))) in
    omega (arith, sum_by-cons one (test a) (map test (range_with_len (a + 1) n)), sum_by-cons (λ (k : ℕ). one (p k)) a (range_with_len (a + 1) n), here, rest)

count_split : (test : ℕ → Bool) (a n m : ℕ) → count_by (λ used. used) (map test (range_with_len a (n + m))) ≡ count_by (λ used. used) (map test (range_with_len a n)) + count_by (λ used. used) (map test (range_with_len (a + n) m))
count_split test a n m =
    let same = λ (b l : ℕ). count_same test test b l (λ k low high. refl) in
    omega (arith, same a (n + m), same a n, same (a + n) m, count_parts test a n m)

pub count_user : (first units : ℕ) (words : List ℕ) → used_of (map_from first units words) ≡ used_between words (min first units) units
count_user first units words =
    let test = λ (k : ℕ). leb first k && is_set words k in
    let low : ℕ = min first units in
    let whole : units ≡ low + (units - low) = omega arith in
    let begin : 0 + low ≡ low = omega arith in
    let parts : used_of (map_from first units words) ≡ count_by (λ used. used) (map test (range_with_len 0 low)) + count_by (λ used. used) (map test (range_with_len low (units - low))) =
    ap (λ (x : ℕ). count_by (λ used. used) (map test (range_with_len 0 x))) whole ∙ count_split test 0 low (units - low)
    ∙ ap (λ (x : ℕ). count_by (λ used. used) (map test (range_with_len 0 low)) + count_by (λ used. used) (map test (range_with_len x (units - low)))) begin in
    let none = count_below test 0 low (λ k ge lt. rw (lt-leb first k (omega (arith, lt))) refl) in
    let rest : count_by (λ used. used) (map test (range_with_len low (units - low))) ≡ used_between words low units =
    count_same test (is_set words) low (units - low) (λ k ge lt. rw (le-leb first k (omega (arith, ge, lt))) refl) in
    omega (arith, parts, none, rest)

-- ---- the words

-- the words that are kept are as they were, and the others are free
kept_bit : (old : List ℕ) (count k : ℕ) → k < 64 * count → is_set (take count old ++ replicate (count - length old) 0) k ≡ cond (ltb k (64 * length old)) (is_set old k) false
unfolding is_set
kept_bit old count k inside =
    let word : k / 64 < count = div_below k 64 count (omega arith) (omega arith) in
    elim (cases_lt k (64 * length old)) [
      | inl within ↦
          let here : k / 64 < length old = div_below k 64 (length old) (omega arith) (omega arith) in
          let same : get_or (take count old ++ replicate (count - length old) 0) (k / 64) 18446744073709551615 ≡ get_or old (k / 64) 18446744073709551615 =
          get_or_append_left (take count old) (replicate (count - length old) 0) 18446744073709551615 (k / 64) (omega (arith, length-take count old)) ∙ get_or-take count old (k / 64) 18446744073709551615 word in
          rw (lt-ltb k (64 * length old) within, same) refl
      | inr past ↦
          let front : length (take count old) ≡ length old = omega (arith, length-take count old, inside) in
          let zero_there : get_or (take count old ++ replicate (count - length old) 0) (k / 64) 18446744073709551615 ≡ 0 =
          get_or-append_right (take count old) (replicate (count - length old) 0) (length old) (k / 64) 18446744073709551615 front (omega (arith, past))
          ∙ get_or-replicate (count - length old) (k / 64 - length old) 0 18446744073709551615 (omega (arith, word, past)) in
          rw (le-ltb k (64 * length old) past, zero_there, bit_at-zero (k % 64)) refl
    ]

pub resized_is : (first before units count : ℕ) (old kept freed reserved new : List ℕ) → units < 64 * count → 64 * count < 2 ^ 32 → before ≤ 64 * length old → kept ≡ take count old ++ replicate (count - length old) 0
    → SetsRun kept freed (min before units) (min units (64 * length old) - min before units) false → SetsRun freed reserved 0 (min first units) true → SetsRun reserved new units (count * 64 - units) true → AreResized first before units old new
resized_is first before units count old kept freed reserved new room few holds is frees reserves ends =
    let first_len : length kept ≡ count = ap length is ∙ omega (arith, length-append (take count old) (replicate (count - length old) 0), length-take count old, length-replicate {A = ℕ} (count - length old) 0) in
    let len : length new ≡ count = omega (arith, ends.length_same, reserves.length_same, frees.length_same, first_len) in
    record {
      room = omega (arith, len);
      few = omega (arith, len);
      bits = λ k. elim (cases_lt k (64 * count)) [
        | inl inside ↦ ends.units k ∙ elim (cases_lt k units) [
          | inl user ↦ rw (lt-leb units k user, reserves.units k) (elim (cases_lt k first) [
            | inl low ↦ rw (lt-leb first k low, le-leb 0 k (omega arith), lt-ltb k (0 + min first units) (omega arith)) refl
            | inr high ↦ rw (le-leb first k high, lt-ltb k units user, le-leb 0 k (omega arith), le-ltb k (0 + min first units) (omega arith), frees.units k) (user_bit k inside user)
          ])
          | inr beyond ↦ rw (le-leb units k beyond, lt-ltb k (units + (count * 64 - units)) (omega arith), le-ltb k units beyond, and_false (leb first k)) refl
        ]
        | inr outside ↦ rw (le-ltb k units (omega arith), and_false (leb first k)) (past_end new k (omega (arith, len)))
      ];
    }
  where
    twice : (b : Bool) → b ≡ not (not b)
    twice true = refl
    twice false = refl

    old_bit : (k : ℕ) → k < 64 * count → is_set kept k ≡ cond (ltb k (64 * length old)) (is_set old k) false
    old_bit k inside = ap (λ (ws : List ℕ). is_set ws k) is ∙ kept_bit old count k inside

    user_bit : (k : ℕ) → k < 64 * count → k < units → cond (is_within (min before units) (min units (64 * length old) - min before units) k) false (is_set kept k) ≡ not (not (ltb k before && is_set old k))
    user_bit k inside user = elim (cases_lt k before) [
      | inl was ↦ rw (lt-leb (min before units) k (omega arith), old_bit k inside, lt-ltb k (64 * length old) (omega arith), lt-ltb k before was) (twice (is_set old k))
      | inr new_one ↦ rw (le-leb (min before units) k (omega arith), le-ltb k before new_one) (elim (cases_lt k (64 * length old)) [
        | inl within ↦ rw (lt-ltb k (min before units + (min units (64 * length old) - min before units)) (omega arith)) refl
        | inr past ↦ rw (le-ltb k (min before units + (min units (64 * length old) - min before units)) (omega arith), old_bit k inside, le-ltb k (64 * length old) past) refl
      ])
    ]

-- ---- what they stand for

pub resized_sound : (first before units from : ℕ) (old words : List ℕ) → AreSound first before from old → AreResized first before units old words → AreSound first units (min (min from before) units) words
resized_sound first before units from old words sound is = record {
  room = is.room;
  few = is.few;
  reserved = λ k low high. is.bits k ∙ rw (lt-leb first k high) refl;
  past = λ k low high. is.bits k ∙ rw (le-ltb k units low, and_false (leb first k)) refl;
  full = λ k low high. is.bits k ∙ rw (lt-ltb k before (omega arith), sound.full k low (omega arith)) (none (leb first k) (ltb k units));
  low = omega (arith, is.room);
} where
  none : (a b : Bool) → not (a && b && false) ≡ true
  none true true = refl
  none true false = refl
  none false b = refl

pub resized_map : (first before units : ℕ) (old words : List ℕ) → AreResized first before units old words → map_from first units words ≡ with_unit_count (map_from first before old) units
resized_map first before units old words is =
    let f = λ (k : ℕ). leb first k && is_set words k in
    let g = λ (k : ℕ). get_or (used_list first old before) k false in
    let same : used_list first words units ≡ map g (range_with_len 0 units) =
    same_lists (used_list first words units) (map g (range_with_len 0 units)) (length-map-range_with_len f 0 units ∙ sym (length-map-range_with_len g 0 units)) (λ k d lt.
    let inside : k < units = omega (arith, lt, length-map-range_with_len f 0 units) in
    get_or-map-range_with_len f 0 units k k d inside (omega arith) ∙ bit k inside ∙ sym (get_or-map-range_with_len g 0 units k k d inside (omega arith))) in
    ap (λ (list : List Bool). record { first = first; units = units; used = list }) same
  where
    twice : (b : Bool) → not (not b) ≡ b
    twice true = refl
    twice false = refl

    bit : (k : ℕ) → k < units → (leb first k && is_set words k) ≡ get_or (used_list first old before) k false
    bit k inside = elim (cases_lt k before) [
      | inl was ↦
          let there = get_or-map-range_with_len (λ (u : ℕ). leb first u && is_set old u) 0 before k k false was (omega arith) in
          elim (cases_lt k first) [
            | inl low ↦ rw (lt-leb first k low) (sym (there ∙ rw (lt-leb first k low) refl))
            | inr high ↦ rw (is.bits k, le-leb first k high, lt-ltb k units inside, lt-ltb k before was, twice (is_set old k)) (sym (there ∙ rw (le-leb first k high) refl))
          ]
      | inr new_one ↦
          let long = length-map-range_with_len (λ (u : ℕ). leb first u && is_set old u) 0 before in
          let there : get_or (used_list first old before) k false ≡ false = get_or_past (used_list first old before) k false (omega (arith, long, new_one)) in
          elim (cases_lt k first) [
            | inl low ↦ rw (lt-leb first k low) (sym there)
            | inr high ↦ rw (is.bits k, le-leb first k high, lt-ltb k units inside, le-ltb k before new_one) (sym there)
          ]
    ]

-- ---- no unit from one on

-- units that the words say are free aren't used in the map, and units that aren't used are free in the words
pub unused_from : (first units from : ℕ) (words : List ℕ) → AreSound first units from words → (unit : ℕ) (b : Bool) → OnTrue b (IsFreeIn words unit (units - unit)) → OnFalse b (IsFreeIn words unit (units - unit) → ⊥) → first ≤ unit
    → IsTrue b ↔ IsUnusedFrom (map_from first units words) unit
unused_from first units from words sound unit b free used user = by b free used where
  long : length (used_list first words units) ≡ units
  long = length-map-range_with_len (λ (u : ℕ). leb first u && is_set words u) 0 units

  by : (b : Bool) → OnTrue b (IsFreeIn words unit (units - unit)) → OnFalse b (IsFreeIn words unit (units - unit) → ⊥) → IsTrue b ↔ IsUnusedFrom (map_from first units words) unit
  by true free used = (
    λ t k low. elim (cases_lt k units) [
      | inl inside ↦ used_at first units words k inside (omega (arith, user, low)) ∙ free k low (omega (arith, low, inside))
      | inr past ↦ get_or_past (used_list first words units) k false (omega (arith, long, past))
    ],
    λ all. refl,
  )
  by false free used = (λ t. absurd (true≢false (sym t)), λ all. absurd (used (λ k low high. sym (used_at first units words k (omega (arith, low, high)) (omega (arith, user, low))) ∙ all k low)))

-- reserved units aren't used
pub reserved_unused : (first units : ℕ) (words : List ℕ) (unit at : ℕ) → unit ≤ at → ((k : ℕ) → unit ≤ k → k < at → k < first) → IsUnusedFrom (map_from first units words) at → IsUnusedFrom (map_from first units words) unit
reserved_unused first units words unit at low reserved rest k ge = elim (cases_lt k at) [
  | inl before ↦ elim (cases_lt k units) [
    | inl inside ↦ get_or-map-range_with_len (λ (u : ℕ). leb first u && is_set words u) 0 units k k false inside (omega arith) ∙ rw (lt-leb first k (reserved k ge before)) refl
    | inr past ↦ get_or_past (used_list first words units) k false (omega (arith, length-map-range_with_len (λ (u : ℕ). leb first u && is_set words u) 0 units, past))
  ]
  | inr behind ↦ rest k behind
]

-- there are none past the last unit
pub unused_past : (first units : ℕ) (words : List ℕ) (at : ℕ) → units ≤ at → IsUnusedFrom (map_from first units words) at
unused_past first units words at past k low = get_or_past (used_list first words units) k false (omega (arith, length-map-range_with_len (λ (u : ℕ). leb first u && is_set words u) 0 units, past, low))

-- from one on there are none where there are none from there on, reserved ones left out
pub unused_is : (first units : ℕ) (words : List ℕ) (unit at : ℕ) (b : Bool) → at ≡ max unit first → IsTrue b ↔ IsUnusedFrom (map_from first units words) at → IsTrue b ↔ IsUnusedFrom (map_from first units words) unit
unused_is first units words unit at b is there = (
  λ t. reserved_unused first units words unit at (omega arith) (λ k low high. omega arith) (there.0 t),
  λ all. there.1 (λ k low. all k (omega arith)),
)

pub always : (b : Bool) {P : Type 0} → b ≡ true → P → IsTrue b ↔ P
always true is there = (λ t. there, λ p. refl)
always false is there = absurd cc
