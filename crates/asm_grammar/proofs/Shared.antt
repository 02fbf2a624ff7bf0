-- How far two texts go together, by their words.
use Rattle.std.proofs.Common.{◌≡◌, ◌≢◌, ℕ, suc, ◌+◌, ◌<◌, ◌≤◌, Bool, true, false, ◌&&◌, inl, inr, List, [], ◌∷◌, length, map, refl, sym, ap, subst, ◌∙◌, arith}
use Rattle.std.specs.Prelude.{◌==◌}
use Rattle.std.proofs.lemmas.Bool.{eqb-true, eq-eqb}
use Rattle.asm_grammar.specs.Bytes.{is_word, upper, run_of, after_run, common}
use Rattle.asm_grammar.specs.Word.{same_bytes}
use Rattle.asm_grammar.proofs.Tests.{is_true_or_false}

-- Past a run of one kind the texts go together no further than what stands behind their runs does.
pub past_run : (test : ℕ → Bool) (text t : List ℕ) → common text t ≤ length (run_of test text) + common (after_run test text) (after_run test t)
past_run test [] t = omega arith
past_run test (b ∷ text) [] = omega arith
past_run test (b ∷ text) (c ∷ t) =
    elim (is_true_or_false (b == c)) [
      | inr n ↦ rw n (omega arith)
      | inl e ↦
          let same : b ≡ c = eqb-true b c e in
          elim (is_true_or_false (test b)) [
            | inl y ↦ (let z : test c ≡ true = subst (λ x. test x ≡ true) same y in rw (e, y, z) (omega (arith, past_run test text t)))
            | inr y ↦ (let z : test c ≡ false = subst (λ x. test x ≡ false) same y in rw (y, z, e) (omega arith))
          ]
    ]

pub common_short : (text t : List ℕ) → common text t ≤ length text
common_short [] t = omega arith
common_short (b ∷ text) [] = omega arith
common_short (b ∷ text) (c ∷ t) = elim (is_true_or_false (b == c)) [
  | inr n ↦ rw n (omega arith)
  | inl e ↦ rw e (omega (arith, common_short text t))
]

-- Texts whose runs differ part within the first run.
pub runs_part : (test : ℕ → Bool) (text t : List ℕ) → run_of test text ≢ run_of test t → common text t ≤ length (run_of test text)
runs_part test [] t n = omega arith
runs_part test (b ∷ text) [] n = omega arith
runs_part test (b ∷ text) (c ∷ t) n =
    elim (is_true_or_false (b == c)) [
      | inr m ↦ rw m (omega arith)
      | inl e ↦
          let same : b ≡ c = eqb-true b c e in
          elim (is_true_or_false (test b)) [
            | inl y ↦
                (let z : test c ≡ true = subst (λ x. test x ≡ true) same y in
                let p : run_of test (b ∷ text) ≡ b ∷ run_of test text = rw y refl in
                let q : run_of test (c ∷ t) ≡ c ∷ run_of test t = rw z refl in
                rw (e, y) (omega (arith, runs_part test text t (λ h. n (p ∙ (ap (λ x. b ∷ x) h ∙ (ap (λ x. x ∷ run_of test t) same ∙ sym q)))))))
            | inr y ↦
                (let z : test c ≡ false = subst (λ x. test x ≡ false) same y in
                let p : run_of test (b ∷ text) ≡ [] = rw y refl in
                let q : run_of test (c ∷ t) ≡ [] = rw z refl in
                absurd (n (p ∙ sym q)))
          ]
    ]

-- Texts with different first bytes have nothing in common.
pub at_heads : (b c : ℕ) (text t : List ℕ) (n : ℕ) → (b ≡ c → common text t + 1 ≤ n) → common (b ∷ text) (c ∷ t) ≤ n
at_heads b c text t n h = elim (is_true_or_false (b == c)) [
  | inr m ↦ rw m (omega arith)
  | inl e ↦ rw e (h (eqb-true b c e))
]

pub and_true : (a b : Bool) → a ≡ true → (a && b) ≡ false → b ≡ false
and_true true b e n = n
and_true false b e n = cc

run_near : (text t : List ℕ) → same_bytes (map upper (run_of is_word text)) (map upper (run_of is_word t)) ≡ false → common text t ≤ common (map upper (run_of is_word t)) (map upper text)
run_near [] t n = omega arith
run_near (b ∷ text) [] n = omega arith
run_near (b ∷ text) (c ∷ t) n =
    at_heads b c text t _ (λ same.
    subst (λ x. same_bytes (map upper (run_of is_word (b ∷ text))) (map upper (run_of is_word (x ∷ t))) ≡ false → common text t + 1 ≤ common (map upper (run_of is_word (x ∷ t))) (map upper (b ∷ text))) same
    (λ m. elim (is_true_or_false (is_word b)) [
      | inl y ↦
          (let r : (upper b == upper b) ≡ true = eq-eqb (upper b) (upper b) refl in
          let k : ((upper b == upper b) && same_bytes (map upper (run_of is_word text)) (map upper (run_of is_word t))) ≡ false = rw y at m in
          rw (y, r) (omega (arith, run_near text t (and_true (upper b == upper b) _ r k))))
      | inr y ↦ absurd (let f = rw y at m in cc)
    ]) n)

-- A text that doesn't begin with the keyword goes with one that does no further than with the keyword.
pub key_near : (text t k : List ℕ) → map upper (run_of is_word t) ≡ k → same_bytes (map upper (run_of is_word text)) k ≡ false → common text t ≤ common k (map upper text)
key_near text t k e n = subst (λ j. common text t ≤ common j (map upper text)) e
    (run_near text t (subst (λ j. same_bytes (map upper (run_of is_word text)) j ≡ false) (sym e) n))

-- A run that is longer than the other text's parts from it at that one's end.
pub longer_run : (test : ℕ → Bool) (text t : List ℕ) → length (run_of test t) < length (run_of test text) → common text t ≤ length (run_of test t)
longer_run test [] t h = omega arith
longer_run test (b ∷ text) [] h = omega arith
longer_run test (b ∷ text) (c ∷ t) h =
    elim (is_true_or_false (b == c)) [
      | inr m ↦ rw m (omega arith)
      | inl e ↦
          let same : b ≡ c = eqb-true b c e in
          elim (is_true_or_false (test b)) [
            | inl y ↦
                (let z : test c ≡ true = subst (λ x. test x ≡ true) same y in
                let k : suc (length (run_of test t)) < suc (length (run_of test text)) = rw (z, y) at h in
                rw (e, z) (omega (arith, longer_run test text t (omega arith))))
            | inr y ↦
                (let z : test c ≡ false = subst (λ x. test x ≡ false) same y in
                absurd (let k = rw (z, y) at h in omega arith))
          ]
    ]
