-- The pieces of a span.
use Rattle.std.proofs.Common.{◌≡◌, ℕ, ◌+◌, ◌-◌, ◌*◌, ◌/◌, ◌%◌, ◌<◌, ◌≤◌, min, sym, ap, ◌∙◌, arith}
use Rattle.std.proofs.lemmas.Nat.{div-add-mod', mod_below, div-mul-add, mod-mul-add, div_below}
use Rattle.std.proofs.Math.Nat.{mul-le-mul_right}
use Rattle.asm_base.specs.asm_group.declared.Stripe.{Stripe}
use Rattle.asm_base.specs.asm_group.declared.Stripe.TheVariants.{Coarse, Fine}
use Rattle.asm_base.specs.declared.kinds.Span.{Span}
use Rattle.striping.specs.declared.layout.Layout.{Layout}
use Rattle.asm_placement.specs.Layout.{units_of, extent_len, chunk_of, file_byte}
use Rattle.striping.specs.Pieces.{IsAllowedLayout, LaysByteAt, IsFirstPieceOfSpan, run_by}
use Rattle.asm_placement.proofs.Sets.{whole_chunks}
use Rattle.asm_placement.proofs.Units.{IsUnit, layout_unit}

-- a run of bytes of an extent, by the stripe
record IsRun (stripe : Stripe) (au step i q : ℕ) : Type 0 where
  some : 0 < run_by stripe au step i q
  inside : (k : ℕ) → k < run_by stripe au step i q → q + k < extent_len au step i
  follows : (k : ℕ) → k < run_by stripe au step i q → file_byte stripe au step i (q + k) ≡ file_byte stripe au step i q + k
  ends : q + run_by stripe au step i q < extent_len au step i → file_byte stripe au step i (q + run_by stripe au step i q) ≡ file_byte stripe au step i q + run_by stripe au step i q → ⊥

is_run : (stripe : Stripe) (au step i q : ℕ) → IsUnit au → q < extent_len au step i → IsRun stripe au step i q
is_run Coarse au step i q unit inside = record {
  some = omega arith;
  inside = λ k h. omega arith;
  follows = λ k h. omega arith;
  ends = λ lt same. omega arith;
}
is_run Fine au step i q unit inside =
    let c = chunk_of au in
    let j = q / c in
    let t : q % c < c = mod_below q c unit.chunk in
    let q_is : j * c + q % c ≡ q = div-add-mod' q c in
    let whole = whole_chunks au step i unit in
    let m : ℕ = units_of step i * (au / c) in
    let within : j < m = div_below q c m unit.chunk (omega (arith, inside, whole)) in
    let to_end : (j + 1) * c ≤ m * c = mul-le-mul_right c (omega arith) in
    record {
      some = omega arith;
      inside = λ k h. omega (arith, to_end, whole, q_is, h, t);
      follows = λ k h.
          let at : q + k ≡ j * c + (q % c + k) = omega arith in
          let chunk_is : (q + k) / c ≡ j = ap (λ (n : ℕ). n / c) at ∙ div-mul-add j c (q % c + k) (omega arith) in
          let byte_is : (q + k) % c ≡ q % c + k = ap (λ (n : ℕ). n % c) at ∙ mod-mul-add j c (q % c + k) (omega arith) in
          rw (chunk_is, byte_is) (omega arith);
      ends = λ lt same.
          let at : q + (c - q % c) ≡ (j + 1) * c + 0 = omega arith in
          let chunk_is : (q + (c - q % c)) / c ≡ j + 1 = ap (λ (n : ℕ). n / c) at ∙ div-mul-add (j + 1) c 0 unit.chunk in
          let byte_is : (q + (c - q % c)) % c ≡ 0 = ap (λ (n : ℕ). n % c) at ∙ mod-mul-add (j + 1) c 0 unit.chunk in
          omega (arith, (rw (chunk_is, byte_is) at same), t, unit.chunk);
    }

-- the first piece has the bytes up to the end of the run or of the span
pub is_piece : (l : Layout) (span : Span) (i q n : ℕ) → IsAllowedLayout l → 0 < span.len → LaysByteAt l span.at i q → n ≡ min span.len (run_by l.stripe l.au l.step i q) → IsFirstPieceOfSpan l span i q n
is_piece l span i q n is some place e =
    let run = is_run l.stripe l.au l.step i q (layout_unit l.au l.step is) place.inside in
    record {
      some = omega (arith, run.some);
      within = omega arith;
      lies = λ k h. record { inside = run.inside k (omega arith); byte = omega (arith, place.byte, run.follows k (omega arith)) };
      longest = λ more lies.
          let all : n ≡ run_by l.stripe l.au l.step i q = omega arith in
          run.ends (omega (arith, all, lies.inside)) (ap (λ (k : ℕ). file_byte l.stripe l.au l.step i (q + k)) (sym all) ∙ sym lies.byte ∙ omega (arith, place.byte, all));
    }
