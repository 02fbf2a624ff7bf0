-- What the readers of single words compute.
use Rattle.std.proofs.Common.{◌≡◌, ◌≢◌, ℕ, suc, ◌+◌, ◌-◌, ◌*◌, ◌^◌, ◌<◌, ◌≤◌, min, true, false, ◌&&◌, nat_lt, inl, inr, List, [], ◌∷◌, length, drop, refl, sym, ap, ◌∙◌, Option, Some, None, arith}
use Rattle.std.specs.Prelude.{◌==◌, if◌then◌else◌}
use Rattle.std.proofs.lemmas.Bool.{eqb-true, eq-eqb, ltb-true, ltb-false, lt-ltb, le-ltb}
use Rattle.asm_grammar.specs.Bytes.{is_word, is_digit_byte, is_text_byte, run_of, after_run}
use Rattle.asm_grammar.specs.Word.{below, digits_after, number_of_text, near_number, near_value, near_digits, to_quote, with_byte_before, near_quote, near_quoted, quoted_of, starts_with_quote}
use Rattle.asm_grammar.proofs.Tests.{is_true_or_false}
use Rattle.asm_grammar.proofs.Consumes.{run_and_rest}
use Rattle.asm_grammar.proofs.Near.{digit_is_word, digits_grow}

pub other_eqb : (a b : ℕ) → a ≢ b → (a == b) ≡ false
other_eqb a b n = elim (is_true_or_false (a == b)) [ inl h ↦ absurd (n (eqb-true a b h)) | inr h ↦ h ]

pub same_suc : (x y : ℕ) → (x + 1 == suc y) ≡ (x == y)
same_suc x y = elim (is_true_or_false (x == y)) [
  | inl h ↦ (let e : x ≡ y = eqb-true x y h in eq-eqb (x + 1) (suc y) (omega arith) ∙ sym h)
  | inr h ↦ other_eqb (x + 1) (suc y) (λ e. let k : (x == y) ≡ true = eq-eqb x y (omega arith) in cc) ∙ sym h
]

pub too_great : (limit n : ℕ) (bytes : List ℕ) → limit ≤ n → below limit (digits_after n bytes) ≡ None
too_great limit n bytes l = elim (digits_after n bytes) as (λ o. digits_after n bytes ≡ o → below limit o ≡ None) [
  | None ↦ λ e. refl
  | Some v ↦ λ e. (let g = digits_grow n bytes v e in let k : nat_lt v limit ≡ false = le-ltb v limit (omega arith) in rw k refl)
] refl

number_from : (n : ℕ) (text : List ℕ) → n < 2 ^ 64
    → below (2 ^ 64) (digits_after n (run_of is_word text)) ≡ (if near_number n text == length (run_of is_word text) then Some (near_value n text) else None)
number_from n [] l = rw (lt-ltb n (2 ^ 64) l) refl
number_from n (b ∷ text) l = elim (is_true_or_false (is_digit_byte b)) [
  | inr d ↦ (elim (is_true_or_false (is_word b)) [
    | inl w ↦ rw (w, d, other_eqb 0 (suc (length (run_of is_word text))) (omega arith)) refl
    | inr w ↦ rw (w, d, lt-ltb n (2 ^ 64) l) refl
  ])
  | inl d ↦
      let w = digit_is_word b d in
      let m : ℕ = n * 10 + (b - 48) in
      elim (is_true_or_false (nat_lt m (2 ^ 64))) [
        | inl k ↦ rw (w, d, k, same_suc (near_number m text) (length (run_of is_word text))) (number_from m text (ltb-true m (2 ^ 64) k))
        | inr k ↦ rw (w, d, k, other_eqb 0 (suc (length (run_of is_word text))) (omega arith)) (too_great (2 ^ 64) m (run_of is_word text) (ltb-false m (2 ^ 64) k))
      ]
]

pub at_least_one : (x y v : ℕ) → 0 < y → ◌≡◌ {A = Option ℕ} (if x == y then Some v else None) (if nat_lt 0 x && (x == y) then Some v else None)
at_least_one x y v l = elim (is_true_or_false (x == y)) [
  | inl h ↦ (let e : x ≡ y = eqb-true x y h in let k : nat_lt 0 x ≡ true = lt-ltb 0 x (omega arith) in rw (h, k) refl)
  | inr h ↦ (elim (is_true_or_false (nat_lt 0 x)) [ inl k ↦ rw (h, k) refl | inr k ↦ rw (h, k) refl ])
]

-- A run of digits spells a number where all of it is near one.
pub number_read : (text : List ℕ) → number_of_text (run_of is_word text)
    ≡ (if nat_lt 0 (near_number 0 text) && (near_number 0 text == length (run_of is_word text)) then Some (near_value 0 text) else None)
number_read [] = refl
number_read (b ∷ text) = elim (is_true_or_false (is_word b)) [
  | inr w ↦ (elim (is_true_or_false (is_digit_byte b)) [
    | inl d ↦ absurd (let k = digit_is_word b d in cc)
    | inr d ↦ rw (w, d) refl
  ])
  | inl w ↦
      let p : number_of_text (run_of is_word (b ∷ text)) ≡ below (2 ^ 64) (digits_after 0 (run_of is_word (b ∷ text))) = rw w refl in
      let l : length (run_of is_word (b ∷ text)) ≡ suc (length (run_of is_word text)) = rw w refl in
      p ∙ number_from 0 (b ∷ text) (omega arith) ∙ at_least_one (near_number 0 (b ∷ text)) (length (run_of is_word (b ∷ text))) (near_value 0 (b ∷ text)) (omega arith)
]

pub number_near_is : (text : List ℕ) → near_digits near_number text ≡ near_number 0 text
number_near_is [] = refl
number_near_is (b ∷ text) = elim (is_true_or_false (is_digit_byte b)) [
  | inl d ↦ rw d refl
  | inr d ↦ rw d refl
]

-- QUOTED TEXTS

-- the bytes of a text in quotes, as far as they go
abbrev pub inside : List ℕ → List ℕ
inside text = run_of is_text_byte (drop 1 text)

-- what stands behind them
abbrev pub beyond : List ℕ → List ℕ
beyond text = after_run is_text_byte (drop 1 text)

abbrev pub quoted_cut : List ℕ → List ℕ → Option (List ℕ × List ℕ)
quoted_cut front rest = if starts_with_quote rest then Some (front, drop 1 rest) else None

behind_cut : (b : ℕ) (front rest : List ℕ) → with_byte_before b (quoted_cut front rest) ≡ quoted_cut (b ∷ front) rest
behind_cut b front rest = elim (is_true_or_false (starts_with_quote rest)) [ inl h ↦ rw h refl | inr h ↦ rw h refl ]

quote_read : (text : List ℕ) → to_quote text ≡ quoted_cut (run_of is_text_byte text) (after_run is_text_byte text)
quote_read [] = refl
quote_read (b ∷ text) = elim (is_true_or_false (is_text_byte b)) [
  | inl h ↦ rw h (ap (with_byte_before b) (quote_read text) ∙ behind_cut b (run_of is_text_byte text) (after_run is_text_byte text))
  | inr h ↦ rw h refl
]

quote_near_is : (text : List ℕ) → near_quote text ≡ length (run_of is_text_byte text) + (if starts_with_quote (after_run is_text_byte text) then 1 else 0)
quote_near_is [] = refl
quote_near_is (b ∷ text) = elim (is_true_or_false (is_text_byte b)) [
  | inl h ↦ rw h (omega (arith, quote_near_is text))
  | inr h ↦ rw h (omega arith)
]

pub quote_begins : (text : List ℕ) → starts_with_quote text ≡ true → 0 < length text
quote_begins [] e = cc
quote_begins (b ∷ text) e = omega arith

pub quoted_not : (text : List ℕ) → starts_with_quote text ≡ false → (quoted_of text ≡ None) × (near_quoted text ≡ 0)
quoted_not [] n = (refl, refl)
quoted_not (b ∷ text) n = (rw n refl, rw n refl)

pub quoted_open : (text : List ℕ) → starts_with_quote text ≡ true → starts_with_quote (beyond text) ≡ false
    → (quoted_of text ≡ None) × (near_quoted text ≡ length (inside text) + 1)
quoted_open [] e n = cc
quoted_open (b ∷ text) e n =
    let q : to_quote text ≡ None = rw n at (quote_read text) in
    let k : near_quote text ≡ length (run_of is_text_byte text) + 0 = rw n at (quote_near_is text) in
    (rw e q, rw e (omega arith))

pub quoted_fits : (text : List ℕ) → starts_with_quote text ≡ true → starts_with_quote (beyond text) ≡ true
    → (quoted_of text ≡ Some (inside text, drop 1 (beyond text))) × (near_quoted text ≡ length (inside text) + 2)
quoted_fits [] e n = cc
quoted_fits (b ∷ text) e n =
    let q : to_quote text ≡ Some (run_of is_text_byte text, drop 1 (after_run is_text_byte text)) = rw n at (quote_read text) in
    let k : near_quote text ≡ length (run_of is_text_byte text) + 1 = rw n at (quote_near_is text) in
    (rw e q, rw e (omega arith))

-- The bytes inside and the quotes are no more than the text.
pub inside_short : (text : List ℕ) → length (run_of is_text_byte (drop 1 text)) + length (after_run is_text_byte (drop 1 text)) + min 1 (length text) ≡ length text
inside_short [] = refl
inside_short (b ∷ text) = omega (arith, run_and_rest is_text_byte text)
