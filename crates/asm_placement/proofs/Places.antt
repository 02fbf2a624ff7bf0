-- Each byte of a file lies at one place, whichever way the file is striped.
use Rattle.std.proofs.Common.{◌≡◌, ℕ, ◌+◌, ◌-◌, ◌*◌, ◌/◌, ◌%◌, ◌<◌, ◌≤◌, refl, subst, arith, inl, inr}
use Rattle.std.specs.Prelude.{◌↔◌, IsTrue}
use Rattle.std.proofs.lemmas.Bool.{cases_lt, ltb-true, lt-ltb}
use Rattle.std.proofs.lemmas.Nat.{div-add-mod'}
use Rattle.asm_formats.specs.asm_group.declared.Stripe.{Stripe}
use Rattle.asm_formats.specs.asm_group.declared.Stripe.TheVariants.{Coarse, Fine}
use Rattle.asm_placement.specs.Layout.{extent_len, start, chunk_of, first_of_set, has_extent_by_size, extents_at_once, LiesAt, IsLayout}
use Rattle.asm_placement.proofs.Starts.{IsInOrder, one_place, in_first, in_second_left, in_third_left, start_far, start_le, start_past}
use Rattle.asm_placement.proofs.Sets.{IsFine, one_fine_place, fine_from_order, in_its_set, set_start}
use Rattle.asm_placement.proofs.Units.{IsUnit, layout_unit, layout_step}

pub lies_coarse : (au step o i q : ℕ) → IsInOrder au step o i q → LiesAt Coarse au step o i q
lies_coarse au step o i q place = record { inside = place.inside; byte = place.byte }

pub lies_fine : (au step o i q : ℕ) → IsFine au step o i q → LiesAt Fine au step o i q
lies_fine au step o i q place = record { inside = place.inside; byte = place.byte }

pub in_order : (au step o i q : ℕ) → LiesAt Coarse au step o i q → IsInOrder au step o i q
in_order au step o i q place = record { inside = place.inside; byte = place.byte }

pub is_fine : (au step o i q : ℕ) → LiesAt Fine au step o i q → IsFine au step o i q
is_fine au step o i q place = record { inside = place.inside; byte = place.byte }

pub one_place_of : (stripe : Stripe) (au step o i q j r : ℕ) → IsLayout au step → LiesAt stripe au step o i q → LiesAt stripe au step o j r → (i ≡ j) × (q ≡ r)
one_place_of Coarse au step o i q j r is p s = one_place au step o i q j r (in_order au step o i q p) (in_order au step o j r s)
one_place_of Fine au step o i q j r is p s = one_fine_place au step o i q j r (layout_unit au step is) (layout_step au step is).eights (is_fine au step o i q p) (is_fine au step o j r s)

-- ---- each byte lies somewhere

-- a byte's place with the extents one after the other
ordered : (au step o : ℕ) → 0 < au → (i : ℕ) × (q : ℕ) × IsInOrder au step o i q
ordered au step o some = elim (cases_lt o (step * au)) [
  | inl first ↦ (o / au, o % au, in_first au step o some first)
  | inr past ↦ elim (cases_lt (o - step * au) (4 * (step * au))) [
    | inl second ↦ (step + (o - step * au) / (4 * au), (o - step * au) % (4 * au), in_second_left au step o some past second)
    | inr third ↦ (2 * step + (o - step * au - 4 * (step * au)) / (16 * au), (o - step * au - 4 * (step * au)) % (16 * au), in_third_left au step o some past third)
  ]
]

-- where a byte lies in a fine file, by where it would lie in a coarse one
pub fine_by_order : (au step o c r : ℕ) → IsLayout au step → IsInOrder au step o c r
    → let w = c % 8 * extent_len au step c + r in LiesAt Fine au step o (c / 8 * 8 + w / chunk_of au % 8) (w / chunk_of au / 8 * chunk_of au + w % chunk_of au)
fine_by_order au step o c r is order = lies_fine au step o _ _ (fine_from_order au step o c r (layout_unit au step is) (layout_step au step is).eights order)

pub place_of : (stripe : Stripe) (au step o : ℕ) → IsLayout au step → (i : ℕ) × (q : ℕ) × LiesAt stripe au step o i q
place_of Coarse au step o is = let p = ordered au step o (layout_unit au step is).some in (p.0, p.1, lies_coarse au step o p.0 p.1 p.2)
place_of Fine au step o is =
    let p = ordered au step o (layout_unit au step is).some in
    let w : ℕ = p.0 % 8 * extent_len au step p.0 + p.1 in
    (p.0 / 8 * 8 + w / chunk_of au % 8, w / chunk_of au / 8 * chunk_of au + w % chunk_of au, fine_by_order au step o p.0 p.1 is p.2)

-- ---- the bytes of whole sets

before_coarse : (au step o i q n : ℕ) → IsInOrder au step o i q → i < n → o < start au step n
before_coarse au step o i q n p lt = omega (arith, start_past au step i n lt, p.inside, p.byte)

behind_coarse : (au step o i q n : ℕ) → IsInOrder au step o i q → n ≤ i → start au step n ≤ o
behind_coarse au step o i q n p le = omega (arith, start_le au step n i le, p.byte)

before_fine : (au step o i q n : ℕ) → IsUnit au → step % 8 ≡ 0 → n % 8 ≡ 0 → IsFine au step o i q → i < n → o < start au step n
before_fine au step o i q n unit eights whole p lt =
    let s = in_its_set au step o i q unit eights p in
    let end = set_start au step (i / 8) 8 eights (omega arith) in
    omega (arith, start_le au step (8 * (i / 8) + 8) n (omega (arith, div-add-mod' i 8, div-add-mod' n 8)), s.inside, s.byte, end)

behind_fine : (au step o i q n : ℕ) → IsUnit au → step % 8 ≡ 0 → n % 8 ≡ 0 → IsFine au step o i q → n ≤ i → start au step n ≤ o
behind_fine au step o i q n unit eights whole p le =
    let s = in_its_set au step o i q unit eights p in
    omega (arith, start_le au step n (8 * (i / 8)) (omega (arith, div-add-mod' i 8, div-add-mod' n 8)), s.byte)

before_by : (stripe : Stripe) (au step o i q n : ℕ) → IsLayout au step → LiesAt stripe au step o i q → n % extents_at_once stripe ≡ 0 → i < n → o < start au step n
before_by Coarse au step o i q n is p whole lt = before_coarse au step o i q n (in_order au step o i q p) lt
before_by Fine au step o i q n is p whole lt = before_fine au step o i q n (layout_unit au step is) (layout_step au step is).eights whole (is_fine au step o i q p) lt

behind_by : (stripe : Stripe) (au step o i q n : ℕ) → IsLayout au step → LiesAt stripe au step o i q → n % extents_at_once stripe ≡ 0 → n ≤ i → start au step n ≤ o
behind_by Coarse au step o i q n is p whole le = behind_coarse au step o i q n (in_order au step o i q p) le
behind_by Fine au step o i q n is p whole le = behind_fine au step o i q n (layout_unit au step is) (layout_step au step is).eights whole (is_fine au step o i q p) le

pub bytes_of_whole : (stripe : Stripe) (au step o i q n : ℕ) → IsLayout au step → LiesAt stripe au step o i q → n % extents_at_once stripe ≡ 0 → (i < n) ↔ (o < start au step n)
bytes_of_whole stripe au step o i q n is p whole = (
  before_by stripe au step o i q n is p whole,
  λ lt. elim (cases_lt i n) [
    | inl below ↦ below
    | inr le ↦ absurd (omega (arith, behind_by stripe au step o i q n is p whole le))
  ],
)

-- ---- the extents of a file

-- the last byte of a file is in its last extent
pub coarse_count : (au step size c r : ℕ) → 0 < size → IsInOrder au step (size - 1) c r → (i : ℕ) → (i < c + 1) ↔ IsTrue (has_extent_by_size Coarse au step size i)
coarse_count au step size c r some last i = (
  λ lt. lt-ltb (start au step i) size (omega (arith, start_le au step i c (omega arith), last.byte)),
  λ is. elim (cases_lt i (c + 1)) [
    | inl below ↦ below
    | inr past ↦ absurd (omega (arith, start_past au step c i (omega arith), last.byte, last.inside, ltb-true (start au step i) size is))
  ],
)

pub fine_count : (au step size c r : ℕ) → 0 < size → IsInOrder au step (size - 1) c r → (i : ℕ) → (i < (c / 8 + 1) * 8) ↔ IsTrue (has_extent_by_size Fine au step size i)
fine_count au step size c r some last i = (
  λ lt. lt-ltb (start au step (8 * (i / 8))) size (omega (arith, start_le au step (8 * (i / 8)) c (omega arith), last.byte)),
  λ is. elim (cases_lt i ((c / 8 + 1) * 8)) [
    | inl below ↦ below
    | inr past ↦ absurd (omega (arith, start_past au step c (8 * (i / 8)) (omega arith), last.byte, last.inside, ltb-true (start au step (8 * (i / 8))) size is))
  ],
)

-- an empty file has no extents
pub none_count : (stripe : Stripe) (au step i : ℕ) → (i < 0) ↔ IsTrue (has_extent_by_size stripe au step 0 i)
none_count stripe au step i = (λ lt. absurd (omega arith), λ is. absurd (omega (arith, ltb-true (start au step (first_of_set stripe i)) 0 is)))

-- whole sets
at_once : (stripe : Stripe) (n : ℕ) → first_of_set stripe n ≡ n → n % extents_at_once stripe ≡ 0
at_once Coarse n e = omega arith
at_once Fine n e = omega arith

set_of_first : (stripe : Stripe) (i : ℕ) → first_of_set stripe (first_of_set stripe i) ≡ first_of_set stripe i
set_of_first Coarse i = refl
set_of_first Fine i = omega arith

first_le : (stripe : Stripe) (i : ℕ) → first_of_set stripe i ≤ i
first_le Coarse i = omega arith
first_le Fine i = omega arith

pub whole_count : (stripe : Stripe) (au step size n : ℕ) → ((i : ℕ) → (i < n) ↔ IsTrue (has_extent_by_size stripe au step size i)) → (n % extents_at_once stripe ≡ 0) × (size ≤ start au step n)
whole_count stripe au step size n is =
    let first : ℕ = first_of_set stripe n in
    let out : n < n → ⊥ = λ lt. omega arith in
    let far : size ≤ start au step first = elim (cases_lt (start au step first) size) [
      | inl lt ↦ absurd (out ((is n).1 (lt-ltb (start au step first) size lt)))
      | inr le ↦ le
    ] in
    let same : first ≡ n = elim (cases_lt first n) [
      | inl lt ↦ absurd (omega (arith, far, subst (λ (m : ℕ). start au step m < size) (set_of_first stripe n) (ltb-true (start au step (first_of_set stripe first)) size ((is first).0 lt))))
      | inr le ↦ omega (arith, first_le stripe n)
    ] in
    (at_once stripe n same, subst (λ (m : ℕ). size ≤ start au step m) same far)

-- no byte of a file is in an extent of a great number
pub few_extents : (au step o c r : ℕ) → IsLayout au step → IsInOrder au step o c r → 16 * c ≤ o
few_extents au step o c r is place =
    let unit = layout_unit au step is in
    omega (arith, start_far au step c (omega (arith, unit.least)), place.byte)
