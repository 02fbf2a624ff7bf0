-- Where extents begin, in the three stretches of their lengths.
use Rattle.std.proofs.Common.{◌≡◌, ℕ, zero, suc, ◌+◌, ◌-◌, ◌*◌, ◌/◌, ◌%◌, ◌<◌, ◌≤◌, refl, sym, ap, ◌∙◌, subst, arith, inl, inr}
use Rattle.std.proofs.lemmas.Bool.{lt-ltb, le-ltb, cases_lt}
use Rattle.std.proofs.lemmas.Nat.{div_below, div-add-mod', mod_below}
use Rattle.std.proofs.Math.Nat.{mul-le-mul_right}
use Rattle.asm_placement.specs.Layout.{units_of, extent_len, start}

-- with the extents one after the other, byte o is byte q of extent i
pub record IsInOrder (au step o i q : ℕ) : Type 0 where
  pub inside : q < extent_len au step i
  pub byte : o ≡ start au step i + q

pub units_first : (step i : ℕ) → i < step → units_of step i ≡ 1
unfolding units_of
units_first step i h = rw (lt-ltb i step h) refl

pub units_second : (step i : ℕ) → step ≤ i → i < 2 * step → units_of step i ≡ 4
unfolding units_of
units_second step i h k = rw (le-ltb i step h, lt-ltb i (2 * step) k) refl

pub units_third : (step i : ℕ) → 2 * step ≤ i → units_of step i ≡ 16
unfolding units_of
units_third step i h = rw (le-ltb i step (omega arith), le-ltb i (2 * step) h) refl

pub start_first : (au step i : ℕ) → i ≤ step → start au step i ≡ i * au
unfolding start
start_first au step zero h = omega arith
start_first au step (suc i) h =
    let before = start_first au step i (omega arith) in
    let units = units_first step i (omega arith) in
    rw (before, units) (omega arith)

pub start_second : (au step k : ℕ) → k ≤ step → start au step (step + k) ≡ step * au + k * (4 * au)
unfolding start
start_second au step zero h =
    let e : step + 0 ≡ step = omega arith in
    rw e (start_first au step step (omega arith) ∙ omega arith)
start_second au step (suc k) h =
    let e : step + suc k ≡ suc (step + k) = omega arith in
    let before = start_second au step k (omega arith) in
    let units = units_second step (step + k) (omega arith) (omega arith) in
    rw e (rw (before, units) (omega arith))

pub start_third : (au step k : ℕ) → start au step (2 * step + k) ≡ 5 * (step * au) + k * (16 * au)
unfolding start
start_third au step zero =
    let e : 2 * step + 0 ≡ step + step = omega arith in
    rw e (start_second au step step (omega arith) ∙ omega arith)
start_third au step (suc k) =
    let e : 2 * step + suc k ≡ suc (2 * step + k) = omega arith in
    let before = start_third au step k in
    let units = units_third step (2 * step + k) (omega arith) in
    rw e (rw (before, units) (omega arith))

-- ---- the extent at which a byte lies

pub in_first : (au step offset : ℕ) → 0 < au → offset < step * au → IsInOrder au step offset (offset / au) (offset % au)
in_first au step offset some h =
    let i : offset / au < step = div_below offset au step some h in
    let units = units_first step (offset / au) i in
    let rest = mod_below offset au some in
    let split = div-add-mod' offset au in
    let begins = start_first au step (offset / au) (omega arith) in
    record { inside = rw units (omega arith); byte = rw begins (sym split) }

pub in_second : (au step offset : ℕ) → 0 < au → offset < 4 * (step * au) → IsInOrder au step (step * au + offset) (step + offset / (4 * au)) (offset % (4 * au))
in_second au step offset some h =
    let k : offset / (4 * au) < step = div_below offset (4 * au) step (omega arith) (omega arith) in
    let units = units_second step (step + offset / (4 * au)) (omega arith) (omega arith) in
    let rest = mod_below offset (4 * au) (omega arith) in
    let split = div-add-mod' offset (4 * au) in
    let begins = start_second au step (offset / (4 * au)) (omega arith) in
    record { inside = rw units (omega arith); byte = omega (arith, begins, split) }

pub in_third : (au step offset : ℕ) → 0 < au → IsInOrder au step (5 * (step * au) + offset) (2 * step + offset / (16 * au)) (offset % (16 * au))
in_third au step offset some =
    let units = units_third step (2 * step + offset / (16 * au)) (omega arith) in
    let rest = mod_below offset (16 * au) (omega arith) in
    let split = div-add-mod' offset (16 * au) in
    let begins = start_third au step (offset / (16 * au)) in
    record { inside = rw units (omega arith); byte = omega (arith, begins, split) }

-- the same by what is left of an offset
pub in_second_left : (au step offset : ℕ) → 0 < au → step * au ≤ offset → offset - step * au < 4 * (step * au) → IsInOrder au step offset (step + (offset - step * au) / (4 * au)) ((offset - step * au) % (4 * au))
in_second_left au step offset some past h =
    let e : step * au + (offset - step * au) ≡ offset = omega arith in
    subst (λ (o : ℕ). IsInOrder au step o (step + (offset - step * au) / (4 * au)) ((offset - step * au) % (4 * au))) e (in_second au step (offset - step * au) some h)

pub in_third_left : (au step offset : ℕ) → 0 < au → step * au ≤ offset → 4 * (step * au) ≤ offset - step * au → IsInOrder au step offset (2 * step + (offset - step * au - 4 * (step * au)) / (16 * au)) ((offset - step * au - 4 * (step * au)) % (16 * au))
in_third_left au step offset some past h =
    let e : 5 * (step * au) + (offset - step * au - 4 * (step * au)) ≡ offset = omega arith in
    subst (λ (o : ℕ). IsInOrder au step o (2 * step + (offset - step * au - 4 * (step * au)) / (16 * au)) ((offset - step * au - 4 * (step * au)) % (16 * au))) e (in_third au step (offset - step * au - 4 * (step * au)) some)

-- ---- an extent begins where the one before it ends

pub start_next : (au step i : ℕ) → start au step (i + 1) ≡ start au step i + extent_len au step i
unfolding start
start_next au step i = let e : i + 1 ≡ suc i = omega arith in rw e refl

-- extents that come later begin at or behind the end
pub start_later : (au step i k : ℕ) → start au step i ≤ start au step (i + k)
start_later au step i zero = let e : i + 0 ≡ i = omega arith in rw e (omega arith)
start_later au step i (suc k) =
    let e : i + suc k ≡ i + k + 1 = omega arith in
    let before = start_later au step i k in
    rw (e, start_next au step (i + k)) (omega arith)

pub start_le : (au step i j : ℕ) → i ≤ j → start au step i ≤ start au step j
start_le au step i j h =
    let e : i + (j - i) ≡ j = omega arith in
    subst (λ (n : ℕ). start au step i ≤ start au step n) e (start_later au step i (j - i))

pub start_past : (au step i j : ℕ) → i < j → start au step i + extent_len au step i ≤ start au step j
start_past au step i j h = omega (arith, start_next au step i, start_le au step (i + 1) j (omega arith))

-- a byte lies at one place
pub one_place : (au step o i q j r : ℕ) → IsInOrder au step o i q → IsInOrder au step o j r → (i ≡ j) × (q ≡ r)
one_place au step o i q j r p s = elim (cases_lt i j) [
  | inl before ↦ absurd (omega (arith, start_past au step i j before, p.inside, p.byte, s.byte))
  | inr after ↦ elim (cases_lt j i) [
    | inl behind ↦ absurd (omega (arith, start_past au step j i behind, s.inside, p.byte, s.byte))
    | inr same ↦
        let e : i ≡ j = omega arith in
        let f : start au step i ≡ start au step j = ap (start au step) e in
        (e, omega (arith, f, p.byte, s.byte))
  ]
]

pub units_some : (step i : ℕ) → 1 ≤ units_of step i
units_some step i = elim (cases_lt i step) [
  | inl first ↦ omega (arith, units_first step i first)
  | inr later ↦ elim (cases_lt i (2 * step)) [
    | inl second ↦ omega (arith, units_second step i later second)
    | inr third ↦ omega (arith, units_third step i third)
  ]
]

pub units_few : (step i : ℕ) → units_of step i ≤ 16
units_few step i = elim (cases_lt i step) [
  | inl first ↦ omega (arith, units_first step i first)
  | inr later ↦ elim (cases_lt i (2 * step)) [
    | inl second ↦ omega (arith, units_second step i later second)
    | inr third ↦ omega (arith, units_third step i third)
  ]
]

-- an extent's number is small beside the bytes before it
pub start_far : (au step i : ℕ) → 16 ≤ au → 16 * i ≤ start au step i
unfolding start
start_far au step zero h = omega arith
start_far au step (suc i) h =
    let unit : 1 * au ≤ units_of step i * au = mul-le-mul_right au (units_some step i) in
    omega (arith, start_far au step i h)
