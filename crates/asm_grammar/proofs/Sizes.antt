-- What the reader of a size computes.
use Rattle.std.proofs.Common.{◌≡◌, ◌≢◌, ℕ, suc, ◌+◌, ◌-◌, ◌*◌, ◌^◌, ◌<◌, ◌≤◌, min, true, false, ◌&&◌, not, nat_lt, inl, inr, List, [], ◌∷◌, length, refl, sym, ap, subst, ◌∙◌, Some, None, arith}
use Rattle.std.specs.Prelude.{◌==◌, if◌then◌else◌}
use Rattle.std.proofs.lemmas.Bool.{eq-eqb, ltb-true, ltb-false, lt-ltb, le-ltb}
use Rattle.asm_grammar.specs.Bytes.{is_blank, is_word, is_digit_byte, run_of, after_run}
use Rattle.asm_grammar.specs.Argument.{factor}
use Rattle.asm_grammar.specs.Word.{Size, fit, near, with_rest, below, unit_after, size_after, size_of_text, near_size, near_size_value, near_digits, starts_with_digit}
use Rattle.asm_grammar.specs.Reading.{Took, Failed, one}
use Rattle.asm_grammar.proofs.Consumes.{run_and_rest}
use Rattle.asm_grammar.proofs.Tests.{is_true_or_false}
use Rattle.asm_grammar.proofs.Near.{digit_is_word, size_grow}
use Rattle.asm_grammar.proofs.Nearest.{factor_letter, factor_no_digit}
use Rattle.asm_grammar.proofs.Readers.{other_eqb, same_suc}

-- Sizes that have come too far spell none.
pub size_great : (limit n : ℕ) (bytes : List ℕ) → limit ≤ n → below limit (size_after n bytes) ≡ None
size_great limit n bytes l = elim (size_after n bytes) as (λ o. size_after n bytes ≡ o → below limit o ≡ None) [
  | None ↦ λ e. refl
  | Some v ↦ λ e. (let g = size_grow n bytes v e in let k : nat_lt v limit ≡ false = le-ltb v limit (omega arith) in rw k refl)
] refl

pub digit_no_factor : (b : ℕ) → is_digit_byte b ≡ true → (factor b == 0) ≡ true
digit_no_factor b d = elim (is_true_or_false (factor b == 0)) [
  | inl z ↦ z
  | inr z ↦ absurd (let n = factor_no_digit b z in cc)
]

no_factor : (b : ℕ) → is_word b ≡ false → (factor b == 0) ≡ true
no_factor b w = elim (is_true_or_false (factor b == 0)) [
  | inl z ↦ z
  | inr z ↦ absurd (let n = factor_letter b z in cc)
]

-- behind digits, a letter and the end of the word, or none
unit_from : (n b : ℕ) (run : List ℕ) → is_digit_byte b ≡ false
    → below (2 ^ 64) (unit_after n b run) ≡ (if (if not (factor b == 0) && nat_lt (n * factor b) (2 ^ 64) then 1 else 0) == suc (length run) then Some (if not (factor b == 0) && nat_lt (n * factor b) (2 ^ 64) then n * factor b else n) else None)
unit_from n b [] d = elim (is_true_or_false (factor b == 0)) [
  | inl z ↦ rw z refl
  | inr z ↦ rw z (elim (is_true_or_false (nat_lt (n * factor b) (2 ^ 64))) [
    | inl k ↦ rw k refl
    | inr k ↦ rw k refl
  ])
]
unit_from n b (c ∷ run) d = elim (is_true_or_false (not (factor b == 0) && nat_lt (n * factor b) (2 ^ 64))) [
  | inl k ↦ rw (k, other_eqb 1 (suc (suc (length run))) (omega arith)) refl
  | inr k ↦ rw (k, other_eqb 0 (suc (suc (length run))) (omega arith)) refl
]

size_from : (n : ℕ) (text : List ℕ) → n < 2 ^ 64
    → below (2 ^ 64) (size_after n (run_of is_word text)) ≡ (if near_size n text == length (run_of is_word text) then Some (near_size_value n text) else None)
size_from n [] l = rw (lt-ltb n (2 ^ 64) l) refl
size_from n (b ∷ text) l = elim (is_true_or_false (is_digit_byte b)) [
  | inl d ↦
      let w = digit_is_word b d in
      let m : ℕ = n * 10 + (b - 48) in
      elim (is_true_or_false (nat_lt m (2 ^ 64))) [
        | inl k ↦ rw (w, d, k, same_suc (near_size m text) (length (run_of is_word text))) (size_from m text (ltb-true m (2 ^ 64) k))
        | inr k ↦
            (let f : (factor b == 0) ≡ true = digit_no_factor b d in
            rw (w, d, k, f, other_eqb 0 (suc (length (run_of is_word text))) (omega arith)) (size_great (2 ^ 64) m (run_of is_word text) (ltb-false m (2 ^ 64) k)))
      ]
  | inr d ↦ (elim (is_true_or_false (is_word b)) [
    | inl w ↦ rw (w, d) (unit_from n b (run_of is_word text) d)
    | inr w ↦ (let f : (factor b == 0) ≡ true = no_factor b w in rw (w, d, f, lt-ltb n (2 ^ 64) l) refl)
  ])
]

digit_sized : (b : ℕ) (u : List ℕ) → is_digit_byte b ≡ true → size_of_text (b ∷ u) ≡ below (2 ^ 64) (size_after 0 (b ∷ u))
digit_sized b u d = ap (λ x. if x then below (2 ^ 64) (size_after 0 (b ∷ u)) else None) d

first_digit : (b : ℕ) (text : List ℕ) → is_digit_byte b ≡ true → size_of_text (run_of is_word (b ∷ text)) ≡ below (2 ^ 64) (size_after 0 (run_of is_word (b ∷ text)))
first_digit b text d =
    let w = digit_is_word b d in
    let r : run_of is_word (b ∷ text) ≡ b ∷ run_of is_word text = rw w refl in
    ap size_of_text r ∙ digit_sized b (run_of is_word text) d ∙ ap (λ u. below (2 ^ 64) (size_after 0 u)) (sym r)

begun : (near : ℕ → List ℕ → ℕ) (text : List ℕ) → starts_with_digit text ≡ true → near_digits near text ≡ near 0 text
begun f [] d = cc
begun f (b ∷ text) d = ap (λ x. if x then f 0 (b ∷ text) else 0) d

not_begun : (near : ℕ → List ℕ → ℕ) (text : List ℕ) → starts_with_digit text ≡ false → near_digits near text ≡ 0
not_begun f [] d = refl
not_begun f (b ∷ text) d = ap (λ x. if x then f 0 (b ∷ text) else 0) d

size_by : (text : List ℕ) → starts_with_digit text ≡ true → size_of_text (run_of is_word text) ≡ (if near_size 0 text == length (run_of is_word text) then Some (near_size_value 0 text) else None)
size_by [] d = cc
size_by (b ∷ text) d = first_digit b text d ∙ size_from 0 (b ∷ text) (omega arith)

no_size : (text : List ℕ) → starts_with_digit text ≡ false → size_of_text (run_of is_word text) ≡ None
no_size [] d = refl
no_size (b ∷ text) d = elim (is_true_or_false (is_word b)) [
  | inl w ↦ rw (w, d) refl
  | inr w ↦ rw w refl
]

-- What the reader says of a word that begins the text.
pub says_size : (text word : List ℕ) (len size : ℕ) → word ≡ run_of is_word text → len ≡ near_size 0 text → size ≡ near_size_value 0 text → starts_with_digit text ≡ true → len ≡ length word → size_of_text word ≡ Some size
says_size text word len size w l v d e =
    let k : (near_size 0 text == length (run_of is_word text)) ≡ true = eq-eqb (near_size 0 text) (length (run_of is_word text)) (sym l ∙ e ∙ ap length w) in
    ap size_of_text w ∙ size_by text d ∙ ap (λ x. if x then Some (near_size_value 0 text) else None) k ∙ ap (λ x. Some x) (sym v)

pub says_none : (text word : List ℕ) (len : ℕ) → word ≡ run_of is_word text → len ≡ near_size 0 text → starts_with_digit text ≡ true → len ≢ length word → size_of_text word ≡ None
says_none text word len w l d n =
    let k : (near_size 0 text == length (run_of is_word text)) ≡ false = other_eqb (near_size 0 text) (length (run_of is_word text)) (λ e. n (l ∙ e ∙ sym (ap length w))) in
    ap size_of_text w ∙ size_by text d ∙ ap (λ x. if x then Some (near_size_value 0 text) else None) k

pub says_other : (text word : List ℕ) → word ≡ run_of is_word text → starts_with_digit text ≡ false → size_of_text word ≡ None
says_other text word w d = ap size_of_text w ∙ no_size text d

pub near_some : (text : List ℕ) (len : ℕ) → len ≡ near_size 0 text → starts_with_digit text ≡ true → len ≡ near_digits near_size text
near_some text len l d = l ∙ sym (begun near_size text d)

pub near_other : (text : List ℕ) → starts_with_digit text ≡ false → 0 ≡ near_digits near_size text
near_other text d = sym (not_begun near_size text d)

pub given_size : (t text word rest : List ℕ) (v left : ℕ) → text ≡ after_run is_blank t → word ≡ run_of is_word text → rest ≡ after_run is_word text
    → size_of_text word ≡ Some v → one Size t left (fit Size t) ≡ Took v rest left
given_size t text word rest v left a b c e =
    let b' : word ≡ run_of is_word (after_run is_blank t) = b ∙ ap (run_of is_word) a in
    let c' : rest ≡ after_run is_word (after_run is_blank t) = c ∙ ap (after_run is_word) a in
    let f : fit Size t ≡ Some (v, rest) =
    ap (λ o. with_rest (after_run is_word (after_run is_blank t)) o) (subst (λ x. size_of_text x ≡ Some v) b' e) ∙ ap (λ r. Some (v, r)) (sym c') in
    ap (one Size t left) f

pub refused_size : (t text word : List ℕ) (n l left : ℕ) → text ≡ after_run is_blank t → word ≡ run_of is_word text → n ≡ near_digits near_size text
    → left ≡ min l (length text - n) → size_of_text word ≡ None → one Size t l (fit Size t) ≡ Failed left
refused_size t text word n l left a b e is none =
    let b' : word ≡ run_of is_word (after_run is_blank t) = b ∙ ap (run_of is_word) a in
    let f : fit Size t ≡ None = ap (λ o. with_rest (after_run is_word (after_run is_blank t)) o) (subst (λ x. size_of_text x ≡ None) b' none) in
    let n' : n ≡ near_digits near_size (after_run is_blank t) = e ∙ ap (near_digits near_size) a in
    let len : length text ≡ length (after_run is_blank t) = ap length a in
    let r = run_and_rest is_blank t in
    let m : min l (length t - near Size t) ≡ left = omega arith in
    ap (one Size t l) f ∙ ap (λ x. Failed x) m
