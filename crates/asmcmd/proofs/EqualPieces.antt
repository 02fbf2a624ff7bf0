-- Pieces of bytes, compared at once.
use Rattle.std.proofs.Common.{◌≡◌, ℕ, zero, suc, ◌+◌, ◌*◌, ◌<◌, List, [], ◌∷◌, take, drop, replicate, sym, refl, ap, ◌∙◌, arith, get_or}
use Rattle.std.specs.Simd.{first_chunks}
use Rattle.std.proofs.lemmas.Bool.{eq-eqb}
use Rattle.std.proofs.lemmas.List.{drop-drop}
use Rattle.asmcmd.specs.Runs.{equal_front}

heads : (b c : ℕ) (xs ys : List ℕ) → c ∷ xs ≡ b ∷ ys → (b ≡ c) × (xs ≡ ys)
heads b c xs ys e = (cc, cc)

-- a piece of one byte at the front counts whole
pub front_goes_on : (n b : ℕ) (bytes : List ℕ) → take n bytes ≡ replicate n b → n + equal_front b (drop n bytes) ≡ equal_front b bytes
front_goes_on zero b bytes e = omega arith
front_goes_on (suc n) b [] e = absurd cc
front_goes_on (suc n) b (c ∷ bytes) e =
    let same : (b ≡ c) × (take n bytes ≡ replicate n b) = heads b c (take n bytes) (replicate n b) e in
    let rest : n + equal_front b (drop n bytes) ≡ equal_front b bytes = front_goes_on n b bytes same.1 in
    rw (eq-eqb b c same.0) (omega (arith, rest))

-- a piece is what stands at its place
piece_at : (n k i : ℕ) (bytes d : List ℕ) → i < k → get_or (first_chunks n k bytes) i d ≡ take n (drop (i * n) bytes)
piece_at n zero i bytes d h = absurd (omega (arith, h))
piece_at n (suc k) zero bytes d h =
    let none : zero * n ≡ 0 = omega arith in
    rw none refl
piece_at n (suc k) (suc i) bytes d h =
    let place : suc i * n ≡ n + i * n = omega arith in
    rw place (piece_at n k i (drop n bytes) d (omega (arith, h)) ∙ ap (take n) (drop-drop (i * n) n bytes))

-- the count goes on behind a piece of one byte
pub goes_on : (n k i b : ℕ) (bytes d : List ℕ) (pieces : List (List ℕ)) → pieces ≡ first_chunks n k bytes → i < k → get_or pieces i d ≡ replicate n b → i * n + equal_front b (drop (i * n) bytes) ≡ equal_front b bytes → (i + 1) * n + equal_front b (drop ((i + 1) * n) bytes) ≡ equal_front b bytes
goes_on n k i b bytes d pieces cut below same before =
    let piece : take n (drop (i * n) bytes) ≡ replicate n b = sym (piece_at n k i bytes d below) ∙ (ap (λ (xs : List (List ℕ)). get_or xs i d) (sym cut) ∙ same) in
    let rest : n + equal_front b (drop n (drop (i * n) bytes)) ≡ equal_front b (drop (i * n) bytes) = front_goes_on n b (drop (i * n) bytes) piece in
    let place : (i + 1) * n ≡ i * n + n = omega arith in
    let behind : n + equal_front b (drop (i * n + n) bytes) ≡ equal_front b (drop (i * n) bytes) = rw drop-drop at rest in
    rw place (omega (arith, behind, before))
