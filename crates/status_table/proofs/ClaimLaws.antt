-- A claim is read from its one spelling alone.
use Rattle.std.proofs.Common.{◌≡◌, ℕ, zero, suc, ◌^◌, ◌<◌, true, ltb, List, ◌++◌, length, refl, arith}
use Rattle.std.specs.Prelude.{codes}
use Rattle.std.specs.Int.{w64}
use Rattle.std.proofs.lemmas.Bool.{and_parts, ltb-true, lt-ltb}
use Rattle.asm_formats.specs.Bytes.{number_bytes, whole_block}
use Rattle.asm_formats.specs.Claim.{Claim, claim_spelling, is_claim, decoded_claim}
use Rattle.asm_formats.proofs.Bodies.{claim_codec}
use Rattle.asm_base.specs.Readings.{whole_reading}
use Rattle.asm_base.proofs.Exact.{IsBytes, IsExact, both_exact, as_exact, fits_exact}
use Rattle.asm_base.proofs.Numbers.{number_exact}
use Rattle.asm_base.proofs.FieldLaws.{fixed_exact}
use Rattle.asm_base.proofs.Decoding.{plain_is_decoded}
use Rattle.status_table.specs.Readings.{ClaimParts, to_claim, claim_reading}

claim_fields : Claim → List ℕ
claim_fields c = codes "ASMC" ++ (number_bytes w64 c.id ++ number_bytes w64 c.epoch)

record FitsClaim (c : Claim) : Type 0 where
  id : c.id < 2 ^ 64
  epoch : c.epoch < 2 ^ 64

of_claim : Claim → ClaimParts
of_claim c = (tt, (c.id, c.epoch))

tag_bytes : IsBytes (codes "ASMC")
tag_bytes zero = omega arith
tag_bytes (suc zero) = omega arith
tag_bytes (suc (suc zero)) = omega arith
tag_bytes (suc (suc (suc zero))) = omega arith
tag_bytes (suc (suc (suc (suc i)))) = omega arith

claim_exact : IsExact claim_fields FitsClaim claim_reading
unfolding claim_reading claim_fields of_claim
claim_exact =
    let fields = both_exact (fixed_exact (codes "ASMC") tag_bytes) (both_exact (number_exact w64) (number_exact w64)) in
    fits_exact (λ c f. record { id = f.1.0; epoch = f.1.1 }) (λ c f. (tt, (f.id, f.epoch))) (as_exact to_claim of_claim (λ p. refl) (λ c. refl) fields)

spelling_is : (c : Claim) → claim_spelling c ≡ whole_block (claim_fields c)
unfolding claim_spelling claim_fields
spelling_is c = refl

allowed : (c : Claim) → FitsClaim c → is_claim c ≡ true
unfolding is_claim
allowed c f = rw (lt-ltb c.id (2 ^ 64) f.id, lt-ltb c.epoch (2 ^ 64) f.epoch) refl

fits : (c : Claim) → is_claim c ≡ true → FitsClaim c
unfolding is_claim
fits c e = let p = and_parts (ltb c.id (2 ^ 64)) (ltb c.epoch (2 ^ 64)) e in record { id = ltb-true _ _ p.0; epoch = ltb-true _ _ p.1 }

pub claim_is_read : (bytes : List ℕ) → length bytes ≡ 4096 → IsBytes bytes → whole_reading claim_reading bytes ≡ decoded_claim bytes
claim_is_read bytes len are = plain_is_decoded claim_exact claim_codec spelling_is allowed fits bytes len are
