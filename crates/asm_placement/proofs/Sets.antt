-- Fine extents, eight by eight.
use Rattle.std.proofs.Common.{◌≡◌, ℕ, zero, suc, ◌+◌, ◌*◌, ◌/◌, ◌%◌, ◌<◌, ◌≤◌, sym, ap, ◌∙◌, arith, inl, inr}
use Rattle.std.proofs.lemmas.Bool.{cases_lt}
use Rattle.std.proofs.lemmas.Nat.{div_below, div-add-mod', mod_below, div-mul-add, mod-mul-add, same_from_place, mul-add-lt}
use Rattle.std.proofs.Math.Nat.{mul_assoc, mul_comm, mul-le-mul_right}
use Rattle.asm_formats.specs.asm_group.declared.Stripe.TheVariants.{Fine}
use Rattle.asm_placement.specs.Layout.{units_of, extent_len, start, chunk_of, file_byte}
use Rattle.asm_placement.proofs.Starts.{IsInOrder, units_first, units_second, units_third, start_next, start_le}
use Rattle.asm_placement.proofs.Units.{IsUnit}

-- the eight extents of a set have one length
pub one_length : (step s e : ℕ) → step % 8 ≡ 0 → e < 8 → units_of step (8 * s + e) ≡ units_of step (8 * s)
one_length step s e eights h =
    let p : step ≡ step / 8 * 8 = omega (arith, div-add-mod' step 8) in
    elim (cases_lt (8 * s + e) step) [
      | inl first ↦ units_first step (8 * s + e) first ∙ sym (units_first step (8 * s) (omega arith))
      | inr later ↦
          elim (cases_lt (8 * s + e) (2 * step)) [
            | inl second ↦ units_second step (8 * s + e) later second ∙ sym (units_second step (8 * s) (omega arith) (omega arith))
            | inr third ↦ units_third step (8 * s + e) third ∙ sym (units_third step (8 * s) (omega arith))
          ]
    ]

-- the bytes of e extents of a set
pub set_start : (au step s e : ℕ) → step % 8 ≡ 0 → e ≤ 8 → start au step (8 * s + e) ≡ start au step (8 * s) + e * extent_len au step (8 * s)
set_start au step s zero eights h = let e : 8 * s + 0 ≡ 8 * s = omega arith in rw e (omega arith)
set_start au step s (suc e) eights h =
    let same : 8 * s + suc e ≡ 8 * s + e + 1 = omega arith in
    let before = set_start au step s e eights (omega arith) in
    let length = one_length step s e eights (omega arith) in
    rw (same, start_next au step (8 * s + e), before, length) (omega arith)

-- a byte of a set by its chunk
pub record IsInSet (au step o s w : ℕ) : Type 0 where
  pub inside : w < 8 * extent_len au step (8 * s)
  pub byte : o ≡ start au step (8 * s) + w

-- a byte is in one set
pub one_set : (au step o s w t v : ℕ) → step % 8 ≡ 0 → IsInSet au step o s w → IsInSet au step o t v → (s ≡ t) × (w ≡ v)
one_set au step o s w t v eights p q =
    let end_s = set_start au step s 8 eights (omega arith) in
    let end_t = set_start au step t 8 eights (omega arith) in
    elim (cases_lt s t) [
      | inl before ↦ absurd (omega (arith, start_le au step (8 * s + 8) (8 * t) (omega arith), p.inside, p.byte, q.byte, end_s))
      | inr after ↦ elim (cases_lt t s) [
        | inl behind ↦ absurd (omega (arith, start_le au step (8 * t + 8) (8 * s) (omega arith), q.inside, p.byte, q.byte, end_t))
        | inr same ↦
            let e : s ≡ t = omega arith in
            let f : start au step (8 * s) ≡ start au step (8 * t) = ap (λ (n : ℕ). start au step (8 * n)) e in
            (e, omega (arith, f, p.byte, q.byte))
      ]
    ]

-- a place in a row of w
row_lt : (a w b h : ℕ) → a < h → b < w → a * w + b < h * w
row_lt a w b h p q = rw (mul_comm h w) (mul-add-lt a w b h p q)

-- an extent has whole chunks
pub whole_chunks : (au step i : ℕ) → IsUnit au → extent_len au step i ≡ units_of step i * (au / chunk_of au) * chunk_of au
whole_chunks au step i unit = ap (λ (n : ℕ). units_of step i * n) (sym unit.chunks) ∙ sym (mul_assoc (units_of step i) (au / chunk_of au) (chunk_of au))

-- byte o is byte q of the fine extent i
pub record IsFine (au step o i q : ℕ) : Type 0 where
  pub inside : q < extent_len au step i
  pub byte : o ≡ file_byte Fine au step i q

-- chunk j of extent e of a set
pub fine_place : (au step o s e j t : ℕ) → IsUnit au → step % 8 ≡ 0 → e < 8 → t < chunk_of au → IsInSet au step o s ((8 * j + e) * chunk_of au + t) → IsFine au step o (8 * s + e) (j * chunk_of au + t)
fine_place au step o s e j t unit eights he ht in_set =
    let c = chunk_of au in
    let whole = whole_chunks au step (8 * s) unit in
    let length : extent_len au step (8 * s + e) ≡ extent_len au step (8 * s) = ap (λ (n : ℕ). n * au) (one_length step s e eights he) in
    let m : ℕ = units_of step (8 * s) * (au / c) in
    let below : 8 * j + e < 8 * m = chunks_below (8 * j + e) (8 * m) c t (omega (arith, in_set.inside, whole)) in
    let within : j * c + t < m * c = row_lt j c t m (omega arith) ht in
    let set_is : (8 * s + e) / 8 ≡ s = ap (λ (n : ℕ). n / 8) (omega arith) ∙ div-mul-add s 8 e he in
    let place_is : (8 * s + e) % 8 ≡ e = ap (λ (n : ℕ). n % 8) (omega arith) ∙ mod-mul-add s 8 e he in
    let chunk_is : (j * c + t) / c ≡ j = div-mul-add j c t ht in
    let byte_is : (j * c + t) % c ≡ t = mod-mul-add j c t ht in
    record {
      inside = rw (length, whole) within;
      byte = rw (set_is, place_is, chunk_is, byte_is) (in_set.byte ∙ omega arith);
    }
  where
    chunks_below : (k n c t : ℕ) → k * c + t < n * c → k < n
    chunks_below k n c t h = elim (cases_lt k n) [
      | inl lt ↦ lt
      | inr le ↦ absurd (omega (arith, h, mul-le-mul_right c le))
    ]

-- the set and the chunk of a fine byte
pub in_its_set : (au step o i q : ℕ) → IsUnit au → step % 8 ≡ 0 → IsFine au step o i q → IsInSet au step o (i / 8) ((8 * (q / chunk_of au) + i % 8) * chunk_of au + q % chunk_of au)
in_its_set au step o i q unit eights fine =
    let c = chunk_of au in
    let e : i % 8 < 8 = mod_below i 8 (omega arith) in
    let i-is : i ≡ 8 * (i / 8) + i % 8 = omega (arith, div-add-mod' i 8) in
    let length : extent_len au step i ≡ extent_len au step (8 * (i / 8)) = ap (extent_len au step) i-is ∙ ap (λ (n : ℕ). n * au) (one_length step (i / 8) (i % 8) eights e) in
    let whole = whole_chunks au step (8 * (i / 8)) unit in
    let m : ℕ = units_of step (8 * (i / 8)) * (au / c) in
    let j : q / c < m = div_below q c m unit.chunk (omega (arith, fine.inside, length, whole)) in
    let t : q % c < c = mod_below q c unit.chunk in
    let k : (8 * (q / c) + i % 8) * c + q % c < (8 * m) * c = row_lt (8 * (q / c) + i % 8) c (q % c) (8 * m) (omega arith) t in
    record { inside = rw whole (omega (arith, k)); byte = fine.byte ∙ omega arith }

-- a byte lies at one place of the fine extents
pub one_fine_place : (au step o i q j r : ℕ) → IsUnit au → step % 8 ≡ 0 → IsFine au step o i q → IsFine au step o j r → (i ≡ j) × (q ≡ r)
one_fine_place au step o i q j r unit eights p s =
    let c = chunk_of au in
    let one = one_set au step o (i / 8) ((8 * (q / c) + i % 8) * c + q % c) (j / 8) ((8 * (r / c) + j % 8) * c + r % c) eights (in_its_set au step o i q unit eights p) (in_its_set au step o j r unit eights s) in
    let chunks = same_from_place (8 * (q / c) + i % 8) (q % c) (8 * (r / c) + j % 8) (r % c) c (mod_below q c unit.chunk) (mod_below r c unit.chunk) one.1 in
    let extents = same_from_place (q / c) (i % 8) (r / c) (j % 8) 8 (mod_below i 8 (omega arith)) (mod_below j 8 (omega arith)) (omega (arith, chunks.0)) in
    let q_is : q / c * c + q % c ≡ q = div-add-mod' q c in
    let r_is : r / c * c + r % c ≡ r = div-add-mod' r c in
    (omega (arith, one.0, extents.1, div-add-mod' i 8, div-add-mod' j 8), sym q_is ∙ ap (λ (n : ℕ). n * c + q % c) extents.0 ∙ ap (λ (n : ℕ). r / c * c + n) chunks.1 ∙ r_is)

-- where a byte lies that would be byte r of extent c if the extents followed one another
pub fine_from_order : (au step o c r : ℕ) → IsUnit au → step % 8 ≡ 0 → IsInOrder au step o c r
    → let w = c % 8 * extent_len au step c + r in IsFine au step o (c / 8 * 8 + w / chunk_of au % 8) (w / chunk_of au / 8 * chunk_of au + w % chunk_of au)
fine_from_order au step o c r unit eights order =
    let n = chunk_of au in
    let w : ℕ = c % 8 * extent_len au step c + r in
    let c-is : c ≡ 8 * (c / 8) + c % 8 = omega (arith, div-add-mod' c 8) in
    let e : c % 8 < 8 = mod_below c 8 (omega arith) in
    let length : extent_len au step c ≡ extent_len au step (8 * (c / 8)) = ap (extent_len au step) c-is ∙ ap (λ (m : ℕ). m * au) (one_length step (c / 8) (c % 8) eights e) in
    let begins : start au step c ≡ start au step (8 * (c / 8)) + c % 8 * extent_len au step (8 * (c / 8)) = ap (start au step) c-is ∙ set_start au step (c / 8) (c % 8) eights (omega arith) in
    let same_product : c % 8 * extent_len au step c ≡ c % 8 * extent_len au step (8 * (c / 8)) = ap (λ (m : ℕ). c % 8 * m) length in
    let low : w < 8 * extent_len au step (8 * (c / 8)) = omega (arith, mul-add-lt (c % 8) (extent_len au step c) r 8 e order.inside, length) in
    let split : (8 * (w / n / 8) + w / n % 8) * n + w % n ≡ w = ap (λ (m : ℕ). m * n + w % n) (omega (arith, div-add-mod' (w / n) 8)) ∙ div-add-mod' w n in
    let in_set : IsInSet au step o (c / 8) ((8 * (w / n / 8) + w / n % 8) * n + w % n) = record { inside = rw split low; byte = rw split (omega (arith, order.byte, begins, same_product)) } in
    let turned : c / 8 * 8 + w / n % 8 ≡ 8 * (c / 8) + w / n % 8 = omega arith in
    rw turned (fine_place au step o (c / 8) (w / n % 8) (w / n / 8) (w % n) unit eights (mod_below (w / n) 8 (omega arith)) (mod_below w n unit.chunk) in_set)
