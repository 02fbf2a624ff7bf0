-- The sizes of units and chunks.
use Rattle.std.proofs.Common.{◌≡◌, ℕ, ◌*◌, ◌/◌, ◌%◌, ◌<◌, ◌≤◌, Bool, true, false, eqb, ltb, leb, List, [], ◌∷◌, refl, subst, arith, inl, inr}
use Rattle.std.specs.Prelude.{◌&&◌}
use Rattle.std.specs.List.{list_any, list_all}
use Rattle.std.proofs.lemmas.Bool.{cases_eq, eqb-true, ne_eqb, ltb-true, leb-true}
use Rattle.std.proofs.lemmas.Nat.{mul-le}
use Rattle.std.specs.Int.{is_in_range}
use Rattle.asm_formats.specs.asm_group.Shape.{unit_sizes, is_unit_size, is_step}
use Rattle.asm_placement.specs.Layout.{chunk_of, IsLayout}

and_both : (a b : Bool) → (a && b) ≡ true → (a ≡ true) × (b ≡ true)
and_both true b e = (refl, e)
and_both false b e = absurd cc

-- what all of a list pass, one of it passes
one_of_all : (test : ℕ → Bool) (xs : List ℕ) (n : ℕ) → list_all test xs ≡ true → list_any (λ x. eqb x n) xs ≡ true → test n ≡ true
one_of_all test [] n all e = absurd cc
one_of_all test (x ∷ xs) n all e =
    let parts = and_both (test x) (list_all test xs) all in
    elim (cases_eq x n) [
      | inl same ↦ subst (λ (m : ℕ). test m ≡ true) same parts.0
      | inr other ↦ one_of_all test xs n parts.1 (rw (ne_eqb x n other) at e)
    ]

passes : ℕ → Bool
passes au = (leb 4096 au && leb au 67108864) && (ltb 0 (chunk_of au) && eqb (au / chunk_of au * chunk_of au) au)

-- a unit has at most 64M, and a whole number of chunks
pub record IsUnit (au : ℕ) : Type 0 where
  pub some : 0 < au
  pub least : 4096 ≤ au
  pub most : au ≤ 67108864
  pub chunk : 0 < chunk_of au
  pub chunks : au / chunk_of au * chunk_of au ≡ au

pub is_unit : (au : ℕ) → is_unit_size au ≡ true → IsUnit au
unfolding passes
is_unit au e =
    let p = one_of_all passes unit_sizes au refl e in
    let halves = and_both (leb 4096 au && leb au 67108864) (ltb 0 (chunk_of au) && eqb (au / chunk_of au * chunk_of au) au) p in
    let left = and_both (leb 4096 au) (leb au 67108864) halves.0 in
    let right = and_both (ltb 0 (chunk_of au)) (eqb (au / chunk_of au * chunk_of au) au) halves.1 in
    let least = leb-true 4096 au left.0 in
    record { some = omega arith; least = least; most = leb-true au 67108864 left.1; chunk = ltb-true 0 (chunk_of au) right.0; chunks = eqb-true _ _ right.1 }

-- the extents of one unit have few bytes
pub few_bytes : (step au : ℕ) → step ≤ 20000 → is_unit_size au ≡ true → step * au ≤ 1342177280000
few_bytes step au low e = let u = is_unit au e in mul-le step au 20000 67108864 low u.most

-- a step is whole sets of eight extents
pub record IsStep (step : ℕ) : Type 0 where
  pub eights : step % 8 ≡ 0
  pub least : 8 ≤ step
  pub most : step ≤ 20000

pub is_step_so : (step : ℕ) → is_step step ≡ true → IsStep step
is_step_so step e =
    let parts = and_both (is_in_range 8 20000 step) (eqb (step % 8) 0) e in
    let range = and_both (leb 8 step) (leb step 20000) parts.0 in
    record { eights = eqb-true _ _ parts.1; least = leb-true 8 step range.0; most = leb-true step 20000 range.1 }

pub layout_unit : (au step : ℕ) → IsLayout au step → IsUnit au
layout_unit au step is = is_unit au is.unit_allowed

pub layout_step : (au step : ℕ) → IsLayout au step → IsStep step
layout_step au step is = is_step_so step is.step_allowed
