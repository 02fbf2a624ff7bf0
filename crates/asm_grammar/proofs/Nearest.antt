-- Each word that doesn't fit has a spelling that goes with the text as far as is near.
use Rattle.std.proofs.Common.{◌≡◌, ◌≢◌, ℕ, zero, suc, ◌+◌, ◌-◌, ◌*◌, ◌^◌, ◌<◌, ◌≤◌, Bool, true, false, ◌&&◌, ◌||◌, not, nat_lt, nat_le, inl, inr, List, [], ◌∷◌, ◌++◌, length, map, take, refl, sym, ap, subst, ◌∙◌, Option, Some, None, arith, append_assoc, add-one, lit<}
use Rattle.std.specs.Prelude.{◌==◌, if◌then◌else◌}
use Rattle.std.specs.List.{list_all}
use Rattle.std.proofs.lemmas.Bool.{eqb-true, eq-eqb, leb-true, leb-false, le-leb, ltb-true, lt-ltb}
use Rattle.asm_grammar.specs.Bytes.{is_blank, is_space, is_filled, is_word, is_digit_byte, is_letter_byte, is_lower, is_text_byte, upper, run_of, after_run, common}
use Rattle.asm_grammar.specs.Argument.{factor, Kind, Exact, Text, PlainName, PlainNumber, Sized, GroupPath, PathPattern, NotLong, PartPattern, HostPath, HexBytes, HexByte, first_stage, is_of, near_from}
use Rattle.asm_grammar.specs.Reading.{is_solid}
use Rattle.asm_grammar.proofs.Stages.{of_run, of_says, is_unspaced, filled, filled_accepted, filled_far, filled_unspaced}
use Rattle.asm_grammar.specs.Word.{Word, Keyword, Mark, Name, Number, Size, Minutes, Quoted, Argument, End, Meaning, gap, begins_argument, below, digits_after, size_after, fit_here, near_here, near_mark, near_quoted, near_number, near_value, near_size, near_minutes, near_unit, near_digits, mark_of, quoted_of, to_quote, number_of_text, size_of_text, is_name_word, starts_with_letter, in_minutes, minutes_in, begins_word}
use Rattle.asm_grammar.specs.Writing.{is_capital}
use Rattle.asm_grammar.proofs.Tests.{or_left, or_right, one_of, both_true, both, not_true, is_true_or_false, false_unless}
use Rattle.asm_grammar.proofs.Apart.{same_self}
use Rattle.asm_grammar.proofs.Readers.{number_near_is}
use Rattle.asm_grammar.proofs.Shared.{and_true}
use Rattle.asm_grammar.proofs.Near.{run_digits, open_quote, not_when, no_rest, run_letter, digit_is_word, letter_is_word, number_short, size_short}
use Rattle.asm_grammar.proofs.Written.{not_blank, run_all, rest_all, cut, capital_words, capital_upper, number_is, quote_spelled}

-- What a spelling of the word, with anything behind it that begins no word, has in common with the text.
pub record Reaches (w : Word) (text : List ℕ) (s tail : List ℕ) : Type 0 where
  pub says : Meaning w
  pub fit_is : fit_here w (s ++ tail) ≡ Some (says, tail)
  pub start : after_run (gap w) (s ++ tail) ≡ s ++ tail
  pub far : near_here w text ≤ common text (s ++ tail)

abbrev WordSpelling : Word → List ℕ → Type 0
WordSpelling w text = (s : List ℕ) × ((tail : List ℕ) → begins_word tail ≡ false → Reaches w text s tail)

pub common_same : (front x y : List ℕ) → common (front ++ x) (front ++ y) ≡ length front + common x y
common_same [] x y = omega arith
common_same (b ∷ front) x y = rw (eq-eqb b b refl) (let k = common_same front x y in omega arith)

pub take_common : (n : ℕ) (x y : List ℕ) → n ≤ length x → n ≤ common x (take n x ++ y)
take_common zero x y l = omega arith
take_common (suc n) [] y l = absurd (omega arith)
take_common (suc n) (b ∷ x) y l = rw (eq-eqb b b refl) (let k = take_common n x y (omega arith) in omega arith)

-- KEYWORDS

-- the keyword with the letters of the text in place of its own, as far as they are the same
abbrev in_case : List ℕ → List ℕ → List ℕ
in_case [] text = []
in_case (c ∷ k) [] = c ∷ k
in_case (c ∷ k) (b ∷ text) = if c == upper b then b ∷ in_case k text else c ∷ k

upper_letter : (b : ℕ) → is_letter_byte (upper b) ≡ true → is_letter_byte b ≡ true
upper_letter b e = elim (is_true_or_false (is_lower b)) [
  | inl h ↦ rw h (or_right (nat_le 65 b && nat_le b 90) true refl)
  | inr h ↦ rw h at e
]

case_words : (k text : List ℕ) → list_all is_capital k ≡ true → list_all is_word (in_case k text) ≡ true
case_words [] text a = refl
case_words (c ∷ k) [] a = capital_words (c ∷ k) a
case_words (c ∷ k) (b ∷ text) a =
    let p = both (is_capital c) (list_all is_capital k) a in
    let q = both (is_letter_byte c) (upper c == c) p.0 in
    elim (is_true_or_false (c == upper b)) [
      | inl h ↦
          (let l : is_letter_byte b ≡ true = upper_letter b (subst (λ x. is_letter_byte x ≡ true) (eqb-true c (upper b) h) q.0) in
          rw (h, letter_is_word b l) (case_words k text p.1))
      | inr h ↦ rw h (capital_words (c ∷ k) a)
    ]

case_upper : (k text : List ℕ) → list_all is_capital k ≡ true → map upper (in_case k text) ≡ k
case_upper [] text a = refl
case_upper (c ∷ k) [] a = capital_upper (c ∷ k) a
case_upper (c ∷ k) (b ∷ text) a =
    let p = both (is_capital c) (list_all is_capital k) a in
    elim (is_true_or_false (c == upper b)) [
      | inl h ↦ (let e : c ≡ upper b = eqb-true c (upper b) h in rw h (ap (λ x. upper b ∷ x) (case_upper k text p.1) ∙ ap (λ x. x ∷ k) (sym e)))
      | inr h ↦ rw h (capital_upper (c ∷ k) a)
    ]

case_far : (k text tail : List ℕ) → common k (map upper text) ≤ common text (in_case k text ++ tail)
case_far [] text tail = omega arith
case_far (c ∷ k) [] tail = omega arith
case_far (c ∷ k) (b ∷ text) tail = elim (is_true_or_false (c == upper b)) [
  | inl h ↦ rw (h, eq-eqb b b refl) (let f = case_far k text tail in omega arith)
  | inr h ↦ rw h (omega arith)
]

case_some : (c : ℕ) (k text : List ℕ) → in_case (c ∷ k) text ≢ []
case_some c k [] e = cc
case_some c k (b ∷ text) e = elim (is_true_or_false (c == upper b)) [
  | inl h ↦ (let f = rw h at e in cc)
  | inr h ↦ (let f = rw h at e in cc)
]

mark_none : (m : ℕ) (text t : List ℕ) → mark_of m text ≡ None → near_mark m text ≤ common text t
mark_none m [] t e = omega arith
mark_none m (b ∷ text) t e = elim (is_true_or_false (b == m)) [
  | inl h ↦ absurd (let f = rw h at e in cc)
  | inr h ↦ rw h (omega arith)
]

key_spelling : (k text : List ℕ) → (not (length k == 0) && list_all is_capital k) ≡ true → WordSpelling (Keyword k) text
key_spelling [] text s = absurd (let f = s in cc)
key_spelling (c ∷ k) text s =
    let a = (both (not (length (c ∷ k) == 0)) (list_all is_capital (c ∷ k)) s).1 in (
      in_case (c ∷ k) text,
      λ tail e.
          let u = cut (in_case (c ∷ k) text) tail (case_words (c ∷ k) text a) (case_some c k text) e in
          record { says = tt; fit_is = rw (u.run, u.rest, case_upper (c ∷ k) text a, same_self (c ∷ k)) refl; start = u.start; far = case_far (c ∷ k) text tail },
    )

length_take_le : (n : ℕ) (xs : List ℕ) → n ≤ length xs → length (take n xs) ≡ n
length_take_le zero xs l = refl
length_take_le (suc n) [] l = absurd (omega arith)
length_take_le (suc n) (x ∷ xs) l = let k = length_take_le n xs (omega arith) in omega arith

mark_spelling : (m : ℕ) (text : List ℕ) → is_blank m ≡ false → mark_of m text ≡ None → WordSpelling (Mark m) text
mark_spelling m text n e = (
  m ∷ [],
  λ tail b. record {
    says = tt;
    fit_is = rw (eq-eqb m m refl) refl;
    start = rw n refl;
    far = mark_none m text (m ∷ tail) e;
  },
)

-- NAMES

name_here : (v tail : List ℕ) → is_name_word v ≡ true → list_all is_word v ≡ true → begins_word tail ≡ false
    → (fit_here Name (v ++ tail) ≡ Some (v, tail)) × (after_run is_blank (v ++ tail) ≡ v ++ tail)
name_here v tail n a e =
    let c = cut v tail a (λ h. let g = subst (λ x. is_name_word x ≡ true) h n in cc) e in
    (rw (c.run, c.rest, n) refl, c.start)

number_here : (bytes tail : List ℕ) (v : ℕ) → list_all is_word bytes ≡ true → number_of_text bytes ≡ Some v → begins_word tail ≡ false
    → (fit_here Number (bytes ++ tail) ≡ Some (v, tail)) × (after_run is_blank (bytes ++ tail) ≡ bytes ++ tail)
number_here bytes tail v a n e =
    let c = cut bytes tail a (λ h. let g = subst (λ x. number_of_text x ≡ Some v) h n in cc) e in
    (rw (c.run, c.rest, n) refl, c.start)

size_here : (bytes tail : List ℕ) (v : ℕ) → list_all is_word bytes ≡ true → size_of_text bytes ≡ Some v → begins_word tail ≡ false
    → (fit_here Size (bytes ++ tail) ≡ Some (v, tail)) × (after_run is_blank (bytes ++ tail) ≡ bytes ++ tail)
size_here bytes tail v a n e =
    let c = cut bytes tail a (λ h. let g = subst (λ x. size_of_text x ≡ Some v) h n in cc) e in
    (rw (c.run, c.rest, n) refl, c.start)

pub run_words : (test : ℕ → Bool) (text : List ℕ) → list_all test (run_of test text) ≡ true
run_words test [] = refl
run_words test (b ∷ text) = elim (is_true_or_false (test b)) [
  | inl h ↦ rw (h, h) (run_words test text)
  | inr h ↦ rw h refl
]

all_take : (test : ℕ → Bool) (n : ℕ) (xs : List ℕ) → list_all test xs ≡ true → list_all test (take n xs) ≡ true
all_take test zero xs a = refl
all_take test (suc n) [] a = refl
all_take test (suc n) (x ∷ xs) a = let p = both (test x) (list_all test xs) a in rw p.0 (all_take test n xs p.1)

take_run_common : (test : ℕ → Bool) (n : ℕ) (text tail : List ℕ) → n ≤ length (run_of test text) → n ≤ common text (take n (run_of test text) ++ tail)
take_run_common test zero text tail l = omega arith
take_run_common test (suc n) [] tail l = absurd (omega arith)
take_run_common test (suc n) (b ∷ text) tail l = elim (is_true_or_false (test b)) [
  | inr h ↦ absurd (let k = rw h at l in omega arith)
  | inl h ↦
      (let k : suc n ≤ suc (length (run_of test text)) = rw h at l in
      rw (h, eq-eqb b b refl) (let f = take_run_common test n text tail (omega arith) in omega arith))
]

letter_take : (n : ℕ) (text : List ℕ) → starts_with_letter text ≡ true → starts_with_letter (take (suc n) (run_of is_word text)) ≡ true
letter_take n [] h = cc
letter_take n (b ∷ text) h = rw (letter_is_word b h) h

long_name : (text : List ℕ) → starts_with_letter text ≡ true → is_name_word (run_of is_word text) ≡ false → 30 < length (run_of is_word text)
long_name text h e =
    leb-false (length (run_of is_word text)) 30 (and_true (starts_with_letter (run_of is_word text)) (nat_le (length (run_of is_word text)) 30) (run_letter text h) e)

name_spelling : (text : List ℕ) → fit_here Name text ≡ None → WordSpelling Name text
name_spelling text e = elim (is_true_or_false (starts_with_letter text)) [
  | inr h ↦ (
    65 ∷ [],
    λ tail b.
        let u = name_here (65 ∷ []) tail refl refl b in
        record { says = 65 ∷ []; fit_is = u.0; start = u.1; far = rw h (omega arith) },
  )
  | inl h ↦
      let long : 30 < length (run_of is_word text) = long_name text h (not_when (is_name_word (run_of is_word text)) (run_of is_word text) (no_rest (after_run is_word text) _ e)) in
      let v : List ℕ = take 30 (run_of is_word text) in
      let l : length v ≡ 30 = length_take_le 30 (run_of is_word text) (omega arith) in
      let n : is_name_word v ≡ true = both_true (starts_with_letter v) (nat_le (length v) 30) (letter_take 29 text h) (le-leb (length v) 30 (omega arith)) in (
        v,
        λ tail b.
            let u = name_here v tail n (all_take is_word 30 (run_of is_word text) (run_words is_word text)) b in
            record { says = v; fit_is = u.0; start = u.1; far = rw h (let f = take_run_common is_word 30 text tail (omega arith) in omega arith) },
      )
]

-- NUMBERS

pub digit_small : (b : ℕ) → is_digit_byte b ≡ true → b - 48 < 10
digit_small b d = let p = both (nat_le 48 b) (nat_le b 57) d in omega (arith, leb-true b 57 p.1)

record NumberFront (n : ℕ) (text : List ℕ) : Type 0 where
  digits : list_all is_digit_byte (take (near_number n text) text) ≡ true
  value : digits_after n (take (near_number n text) text) ≡ Some (near_value n text)
  bound : near_value n text < 2 ^ 64

number_front : (n : ℕ) (text : List ℕ) → n < 2 ^ 64 → NumberFront n text
number_front n [] l = record { digits = refl; value = refl; bound = l }
number_front n (b ∷ text) l = elim (is_true_or_false (is_digit_byte b && nat_lt (n * 10 + (b - 48)) (2 ^ 64))) [
  | inr h ↦ record { digits = rw h refl; value = rw h refl; bound = rw h l }
  | inl h ↦
      (let p = both (is_digit_byte b) (nat_lt (n * 10 + (b - 48)) (2 ^ 64)) h in
      let f = number_front (n * 10 + (b - 48)) text (ltb-true (n * 10 + (b - 48)) (2 ^ 64) p.1) in
      let t : take (near_number n (b ∷ text)) (b ∷ text) ≡ b ∷ take (near_number (n * 10 + (b - 48)) text) text = rw (h, add-one) refl in
      record { digits = rw (t, p.0) f.digits; value = rw (t, p.0, p.1) f.value; bound = rw h f.bound })
]

number_first_digit : (b : ℕ) (text : List ℕ) → is_digit_byte b ≡ true → 0 < near_number 0 (b ∷ text)
number_first_digit b text d =
    let h : (is_digit_byte b && nat_lt (0 * 10 + (b - 48)) (2 ^ 64)) ≡ true = both_true (is_digit_byte b) _ d (lt-ltb (0 * 10 + (b - 48)) (2 ^ 64) (let s = digit_small b d in omega arith)) in
    rw h (omega arith)

words_of_digits : (bytes : List ℕ) → list_all is_digit_byte bytes ≡ true → list_all is_word bytes ≡ true
words_of_digits [] a = refl
words_of_digits (b ∷ bytes) a = let p = both (is_digit_byte b) (list_all is_digit_byte bytes) a in rw (digit_is_word b p.0) (words_of_digits bytes p.1)

take_some : (n b : ℕ) (text : List ℕ) → 0 < n → take n (b ∷ text) ≢ []
take_some zero b text l e = absurd (omega arith)
take_some (suc n) b text l e = cc

zero_number : (text : List ℕ) → near_digits near_number text ≡ 0 → WordSpelling Number text
zero_number text z = (
  48 ∷ [],
  λ tail e.
      let u = number_here (48 ∷ []) tail 0 refl refl e in
      record { says = 0; fit_is = u.0; start = u.1; far = omega arith },
)

number_spelling : (text : List ℕ) → WordSpelling Number text
number_spelling [] = zero_number [] refl
number_spelling (b ∷ text) = elim (is_true_or_false (is_digit_byte b)) [
  | inr h ↦ zero_number (b ∷ text) (rw h refl)
  | inl h ↦
      let f = number_front 0 (b ∷ text) (lit< tt) in
      let s : List ℕ = take (near_number 0 (b ∷ text)) (b ∷ text) in
      let n : number_of_text s ≡ Some (near_value 0 (b ∷ text)) = number_is s (near_value 0 (b ∷ text)) (take_some (near_number 0 (b ∷ text)) b text (number_first_digit b text h)) f.value f.bound in (
        s,
        λ tail e.
            let u = number_here s tail (near_value 0 (b ∷ text)) (words_of_digits s f.digits) n e in
            record {
              says = near_value 0 (b ∷ text);
              fit_is = u.0;
              start = u.1;
              far = (let k : near_digits near_number (b ∷ text) ≡ near_number 0 (b ∷ text) = number_near_is (b ∷ text) in
                  let c = take_common (near_number 0 (b ∷ text)) (b ∷ text) tail (number_short 0 (b ∷ text)) in omega arith);
            },
      )
]

-- QUOTED TEXTS

text_run : (x : List ℕ) → list_all is_text_byte (run_of is_text_byte x) ≡ true
text_run [] = refl
text_run (b ∷ x) = elim (is_true_or_false (is_text_byte b)) [
  | inl h ↦ rw h (both_true (is_text_byte b) _ h (text_run x))
  | inr h ↦ rw h refl
]

run_common : (x tail : List ℕ) → length (run_of is_text_byte x) ≤ common x (run_of is_text_byte x ++ tail)
run_common [] tail = omega arith
run_common (b ∷ x) tail = elim (is_true_or_false (is_text_byte b)) [
  | inl h ↦ rw (h, eq-eqb b b refl) (omega (arith, run_common x tail))
  | inr h ↦ rw h (omega arith)
]

empty_quotes : (text : List ℕ) → near_quoted text ≡ 0 → WordSpelling Quoted text
empty_quotes text z = (39 ∷ 39 ∷ [], λ tail e. record { says = []; fit_is = refl; start = refl; far = omega arith })

quoted_spelling : (text : List ℕ) → quoted_of text ≡ None → WordSpelling Quoted text
quoted_spelling [] e = empty_quotes [] refl
quoted_spelling (b ∷ text) e = elim (is_true_or_false (b == 39)) [
  | inr h ↦ empty_quotes (b ∷ text) (rw h refl)
  | inl h ↦
      let o : to_quote text ≡ None = rw h at e in
      let run : List ℕ = run_of is_text_byte text in
      let same : b ≡ 39 = eqb-true b 39 h in (
        39 ∷ run ++ 39 ∷ [],
        λ tail k. record {
          says = run;
          fit_is = rw (append_assoc run (39 ∷ []) tail) (quote_spelled run tail (text_run text));
          start = refl;
          far = subst (λ x. near_quoted (x ∷ text) ≤ common (x ∷ text) ((39 ∷ run ++ 39 ∷ []) ++ tail)) (sym same)
              (rw (append_assoc run (39 ∷ []) tail) (let l = open_quote text o in let c = run_common text (39 ∷ tail) in omega arith));
        },
      )
]

-- SIZES

record SizeFront (n : ℕ) (text : List ℕ) : Type 0 where
  words : list_all is_word (take (near_size n text) text) ≡ true
  value : ℕ
  is : size_after n (take (near_size n text) text) ≡ Some value
  bound : value < 2 ^ 64

factor_is_letter : (u : ℕ) → (factor u == 0) ≡ false → is_letter_byte u ≡ true
factor_is_letter u f = elim (is_true_or_false (u == 75)) [
  | inl a ↦ subst (λ x. is_letter_byte x ≡ true) (sym (eqb-true u 75 a)) refl
  | inr a ↦ (elim (is_true_or_false (u == 77)) [
    | inl b ↦ subst (λ x. is_letter_byte x ≡ true) (sym (eqb-true u 77 b)) refl
    | inr b ↦ (elim (is_true_or_false (u == 71)) [
      | inl c ↦ subst (λ x. is_letter_byte x ≡ true) (sym (eqb-true u 71 c)) refl
      | inr c ↦ (elim (is_true_or_false (u == 84)) [
        | inl d ↦ subst (λ x. is_letter_byte x ≡ true) (sym (eqb-true u 84 d)) refl
        | inr d ↦ absurd (let g = rw (a, b, c, d) at f in cc)
      ])
    ])
  ])
]

pub factor_letter : (b : ℕ) → (factor b == 0) ≡ false → is_word b ≡ true
factor_letter b f = letter_is_word b (factor_is_letter b f)

letter_no_digit : (b : ℕ) → is_letter_byte b ≡ true → is_digit_byte b ≡ false
letter_no_digit b l = false_unless (is_digit_byte b) (λ d.
    let p = both (nat_le 48 b) (nat_le b 57) d in
    let high : b ≤ 57 = leb-true b 57 p.1 in
    elim (one_of (nat_le 65 b && nat_le b 90) (is_lower b) l) [
      | inl x ↦ (let q = leb-true 65 b (both (nat_le 65 b) (nat_le b 90) x).0 in omega arith)
      | inr x ↦ (let q = leb-true 97 b (both (nat_le 97 b) (nat_le b 122) x).0 in omega arith)
    ])

pub factor_no_digit : (b : ℕ) → (factor b == 0) ≡ false → is_digit_byte b ≡ false
factor_no_digit b f = letter_no_digit b (factor_is_letter b f)

size_step : (n b : ℕ) (bytes : List ℕ) (v : ℕ) → is_digit_byte b ≡ true → size_after (n * 10 + (b - 48)) bytes ≡ Some v → size_after n (b ∷ bytes) ≡ Some v
size_step n b bytes v d e = rw d e

size_unit : (n b : ℕ) → (factor b == 0) ≡ false → size_after n (b ∷ []) ≡ Some (n * factor b)
size_unit n b f = rw (factor_no_digit b f, f) refl

size_front : (n : ℕ) (text : List ℕ) → n < 2 ^ 64 → SizeFront n text
size_front n [] l = record { words = refl; value = n; is = refl; bound = l }
size_front n (b ∷ text) l = elim (is_true_or_false (is_digit_byte b && nat_lt (n * 10 + (b - 48)) (2 ^ 64))) [
  | inl h ↦
      (let p = both (is_digit_byte b) (nat_lt (n * 10 + (b - 48)) (2 ^ 64)) h in
      let f = size_front (n * 10 + (b - 48)) text (ltb-true (n * 10 + (b - 48)) (2 ^ 64) p.1) in
      let t : take (near_size n (b ∷ text)) (b ∷ text) ≡ b ∷ take (near_size (n * 10 + (b - 48)) text) text = rw (h, add-one) refl in
      record {
        words = rw (t, digit_is_word b p.0) f.words;
        value = f.value;
        is = rw t (size_step n b (take (near_size (n * 10 + (b - 48)) text) text) f.value p.0 f.is);
        bound = f.bound;
      })
  | inr h ↦ (elim (is_true_or_false (not (factor b == 0) && nat_lt (n * factor b) (2 ^ 64))) [
    | inr k ↦ record { words = rw (h, k) refl; value = n; is = rw (h, k) refl; bound = l }
    | inl k ↦
        (let p = both (not (factor b == 0)) (nat_lt (n * factor b) (2 ^ 64)) k in
        let f = not_true (factor b == 0) p.0 in
        let t : take (near_size n (b ∷ text)) (b ∷ text) ≡ b ∷ [] = rw (h, k) refl in
        record { words = rw (t, factor_letter b f) refl; value = n * factor b; is = rw t (size_unit n b f); bound = ltb-true (n * factor b) (2 ^ 64) p.1 })
  ])
]

zero_size : (text : List ℕ) → near_digits near_size text ≡ 0 → WordSpelling Size text
zero_size text z = (
  48 ∷ [],
  λ tail e.
      let u = size_here (48 ∷ []) tail 0 refl refl e in
      record { says = 0; fit_is = u.0; start = u.1; far = omega arith },
)

size_first_digit : (b : ℕ) (text : List ℕ) → is_digit_byte b ≡ true → 0 < near_size 0 (b ∷ text)
size_first_digit b text d =
    let h : (is_digit_byte b && nat_lt (0 * 10 + (b - 48)) (2 ^ 64)) ≡ true = both_true (is_digit_byte b) _ d (lt-ltb (0 * 10 + (b - 48)) (2 ^ 64) (let s = digit_small b d in omega arith)) in
    rw h (omega arith)

size_value : (n b v : ℕ) (text : List ℕ) → 0 < n → is_digit_byte b ≡ true → size_after 0 (take n (b ∷ text)) ≡ Some v → v < 2 ^ 64 → size_of_text (take n (b ∷ text)) ≡ Some v
size_value zero b v text l d e k = absurd (omega arith)
size_value (suc n) b v text l d e k =
    subst (λ x. (if x then below (2 ^ 64) (size_after 0 (b ∷ take n text)) else None) ≡ Some v) (sym d)
    (subst (λ o. below (2 ^ 64) o ≡ Some v) (sym e) (rw (lt-ltb v (2 ^ 64) k) refl))

digits_near : (near : ℕ → List ℕ → ℕ) (b : ℕ) (text : List ℕ) → is_digit_byte b ≡ true → near_digits near (b ∷ text) ≡ near 0 (b ∷ text)
digits_near f b text d = rw d refl

size_spelling : (text : List ℕ) → WordSpelling Size text
size_spelling [] = zero_size [] refl
size_spelling (b ∷ text) = elim (is_true_or_false (is_digit_byte b)) [
  | inr h ↦ zero_size (b ∷ text) (rw h refl)
  | inl h ↦
      let f = size_front 0 (b ∷ text) (lit< tt) in
      let s : List ℕ = take (near_size 0 (b ∷ text)) (b ∷ text) in
      let n : size_of_text s ≡ Some f.value = size_value (near_size 0 (b ∷ text)) b f.value text (size_first_digit b text h) h f.is f.bound in (
        s,
        λ tail e.
            let u = size_here s tail f.value f.words n e in
            record {
              says = f.value;
              fit_is = u.0;
              start = u.1;
              far = (let k = digits_near near_size b text h in
                  let c = take_common (near_size 0 (b ∷ text)) (b ∷ text) tail (size_short 0 (b ∷ text)) in omega arith);
            },
      )
]

-- MINUTES

abbrev unit_text : ℕ → List ℕ → List ℕ
unit_text n [] = 77 ∷ []
unit_text n (b ∷ text) =
    if is_blank b then b ∷ unit_text n text
    else if not (minutes_in b == 0) && nat_lt (n * minutes_in b * 60) (2 ^ 64) then b ∷ [] else 77 ∷ []

unit_far : (n : ℕ) (text tail : List ℕ) → near_unit n text ≤ common text (unit_text n text ++ tail)
unit_far n [] tail = omega arith
unit_far n (b ∷ text) tail = elim (is_true_or_false (is_blank b)) [
  | inl h ↦ rw (h, eq-eqb b b refl) (let f = unit_far n text tail in omega arith)
  | inr h ↦ rw h (elim (is_true_or_false (not (minutes_in b == 0) && nat_lt (n * minutes_in b * 60) (2 ^ 64))) [
    | inl k ↦ rw (k, eq-eqb b b refl) (omega arith)
    | inr k ↦ rw k (omega arith)
  ])
]

minute_read : (n : ℕ) (tail : List ℕ) → n * 60 < 2 ^ 64 → begins_word tail ≡ false → in_minutes (Some n) (77 ∷ tail) ≡ Some (n * 1, tail)
minute_read n tail l e = let k : nat_lt (n * 1 * 60) (2 ^ 64) ≡ true = lt-ltb (n * 1 * 60) (2 ^ 64) (omega arith) in rw (e, k) refl

unit_read : (n : ℕ) (text tail : List ℕ) → n * 60 < 2 ^ 64 → begins_word tail ≡ false → (v : ℕ) × (in_minutes (Some n) (after_run is_blank (unit_text n text ++ tail)) ≡ Some (v, tail))
unit_read n [] tail l e = (n * 1, minute_read n tail l e)
unit_read n (b ∷ text) tail l e = elim (is_true_or_false (is_blank b)) [
  | inl h ↦ (let r = unit_read n text tail l e in (r.0, rw (h, h) r.1))
  | inr h ↦ (elim (is_true_or_false (not (minutes_in b == 0) && nat_lt (n * minutes_in b * 60) (2 ^ 64))) [
    | inr k ↦ (n * 1, rw (h, k) (minute_read n tail l e))
    | inl k ↦ (let p = both (not (minutes_in b == 0)) (nat_lt (n * minutes_in b * 60) (2 ^ 64)) k in
        (n * minutes_in b, rw (h, k, h, p.0, e, p.1) refl))
  ])
]

unit_no_digit : (n b : ℕ) (text tail : List ℕ) → is_digit_byte b ≡ false
    → (run_of is_digit_byte (unit_text n (b ∷ text) ++ tail) ≡ []) × (after_run is_digit_byte (unit_text n (b ∷ text) ++ tail) ≡ unit_text n (b ∷ text) ++ tail)
unit_no_digit n b text tail d = elim (is_true_or_false (is_blank b)) [
  | inl h ↦ (rw (h, d) refl, rw (h, d) refl)
  | inr h ↦ (elim (is_true_or_false (not (minutes_in b == 0) && nat_lt (n * minutes_in b * 60) (2 ^ 64))) [
    | inl k ↦ (rw (h, k, d) refl, rw (h, k, d) refl)
    | inr k ↦ (rw (h, k) refl, rw (h, k) refl)
  ])
]

abbrev minutes_text : ℕ → List ℕ → List ℕ
minutes_text n [] = 77 ∷ []
minutes_text n (b ∷ text) =
    if is_digit_byte b then (if nat_lt ((n * 10 + (b - 48)) * 60) (2 ^ 64) then b ∷ minutes_text (n * 10 + (b - 48)) text else 77 ∷ [])
    else unit_text n (b ∷ text)

minutes_far : (n : ℕ) (text tail : List ℕ) → near_minutes n text ≤ common text (minutes_text n text ++ tail)
minutes_far n [] tail = omega arith
minutes_far n (b ∷ text) tail = elim (is_true_or_false (is_digit_byte b)) [
  | inr h ↦ rw h (unit_far n (b ∷ text) tail)
  | inl h ↦ rw h (elim (is_true_or_false (nat_lt ((n * 10 + (b - 48)) * 60) (2 ^ 64))) [
    | inr k ↦ rw k (omega arith)
    | inl k ↦ rw (k, eq-eqb b b refl) (let f = minutes_far (n * 10 + (b - 48)) text tail in omega arith)
  ])
]

abbrev minutes_at : ℕ → List ℕ → Option (ℕ × List ℕ)
minutes_at n text = in_minutes (digits_after n (run_of is_digit_byte text)) (after_run is_blank (after_run is_digit_byte text))

minutes_step : (n b : ℕ) (text : List ℕ) (o : Option (ℕ × List ℕ)) → is_digit_byte b ≡ true → minutes_at (n * 10 + (b - 48)) text ≡ o → minutes_at n (b ∷ text) ≡ o
minutes_step n b text o d e = rw (d, d) e

minutes_read : (n : ℕ) (text tail : List ℕ) → n * 60 < 2 ^ 64 → begins_word tail ≡ false → (v : ℕ) × (minutes_at n (minutes_text n text ++ tail) ≡ Some (v, tail))
minutes_read n [] tail l e = (n * 1, minute_read n tail l e)
minutes_read n (b ∷ text) tail l e = elim (is_true_or_false (is_digit_byte b)) [
  | inr h ↦
      (let r = unit_read n (b ∷ text) tail l e in
      let z = unit_no_digit n b text tail h in
      let t : minutes_text n (b ∷ text) ≡ unit_text n (b ∷ text) = rw h refl in
      (r.0, rw (t, z.0, z.1) r.1))
  | inl h ↦ (elim (is_true_or_false (nat_lt ((n * 10 + (b - 48)) * 60) (2 ^ 64))) [
    | inr k ↦ (n * 1, (let t : minutes_text n (b ∷ text) ≡ 77 ∷ [] = rw (h, k) refl in rw t (minute_read n tail l e)))
    | inl k ↦
        (let r = minutes_read (n * 10 + (b - 48)) text tail (ltb-true ((n * 10 + (b - 48)) * 60) (2 ^ 64) k) e in
        let t : minutes_text n (b ∷ text) ≡ b ∷ minutes_text (n * 10 + (b - 48)) text = rw (h, k) refl in
        (r.0, rw t (minutes_step n b (minutes_text (n * 10 + (b - 48)) text ++ tail) (Some (r.0, tail)) h r.1)))
  ])
]

zero_minutes : (text : List ℕ) → near_digits near_minutes text ≡ 0 → WordSpelling Minutes text
zero_minutes text z = (
  48 ∷ 77 ∷ [],
  λ tail e. record {
    says = 0 * 1;
    fit_is = minute_read 0 tail (lit< tt) e;
    start = refl;
    far = omega arith;
  },
)

minutes_spelling : (text : List ℕ) → WordSpelling Minutes text
minutes_spelling [] = zero_minutes [] refl
minutes_spelling (b ∷ text) = elim (is_true_or_false (is_digit_byte b)) [
  | inr h ↦ zero_minutes (b ∷ text) (rw h refl)
  | inl h ↦
      let m : ℕ = 0 * 10 + (b - 48) in
      let k : nat_lt (m * 60) (2 ^ 64) ≡ true = lt-ltb (m * 60) (2 ^ 64) (let s = digit_small b h in omega arith) in
      let t : minutes_text 0 (b ∷ text) ≡ b ∷ minutes_text m text = rw (h, k) refl in (
        minutes_text 0 (b ∷ text),
        λ tail e.
            let r = minutes_read 0 (b ∷ text) tail (lit< tt) e in
            let shape : minutes_text 0 (b ∷ text) ++ tail ≡ b ∷ (minutes_text m text ++ tail) = rw t refl in
            let r' : minutes_at 0 (b ∷ (minutes_text m text ++ tail)) ≡ Some (r.0, tail) = subst (λ x. minutes_at 0 x ≡ Some (r.0, tail)) shape r.1 in
            record {
              says = r.0;
              fit_is = rw shape (subst (λ o. in_minutes o (after_run is_blank (after_run is_digit_byte (b ∷ (minutes_text m text ++ tail)))) ≡ Some (r.0, tail))
                  (sym (run_digits b (minutes_text m text ++ tail) h)) r');
              start = rw shape (rw (not_blank b (digit_is_word b h)) refl);
              far = (let f = minutes_far 0 (b ∷ text) tail in let g = digits_near near_minutes b text h in omega arith);
            },
      )
]

-- EACH WORD

abbrev pub CanSpell : Word → Type 0
CanSpell (Keyword k) = (not (length k == 0) && list_all is_capital k) ≡ true
CanSpell (Mark m) = is_blank m ≡ false
CanSpell (Argument (Exact k)) = (not (length k == 0) && list_all is_filled k) ≡ true
CanSpell End = ⊥
CanSpell other = Unit {0}

-- the same, with anything behind it that begins with a space, or nothing
abbrev pub Spelling : Word → List ℕ → Type 0
Spelling w text = (s : List ℕ) × ((tail : List ℕ) → begins_argument tail ≡ false → Reaches w text s tail)

pub no_word_begins : (tail : List ℕ) → begins_argument tail ≡ false → begins_word tail ≡ false
no_word_begins [] e = refl
no_word_begins (b ∷ tail) e = false_unless (is_word b) (λ w.
    let n = not_blank b w in
    elim (is_true_or_false (is_space b)) [
      | inr h ↦ (let f = rw h at e in cc)
      | inl h ↦ (let p : is_blank b ≡ true = or_left (is_space b || (b == 13)) (b == 10) (or_left (is_space b) (b == 13) h) in cc)
    ])

as_word : (w : Word) (text : List ℕ) → WordSpelling w text → Spelling w text
as_word w text s = (s.0, λ tail e. s.1 tail (no_word_begins tail e))

common_longer : (xs ys zs : List ℕ) → common xs ys ≤ common (xs ++ zs) ys
common_longer [] ys zs = omega arith
common_longer (b ∷ xs) [] zs = omega arith
common_longer (b ∷ xs) (c ∷ ys) zs = elim (is_true_or_false (b == c)) [
  | inl h ↦ rw h (let k = common_longer xs ys zs in omega arith)
  | inr h ↦ rw h (omega arith)
]

run_joined : (test : ℕ → Bool) (text : List ℕ) → run_of test text ++ after_run test text ≡ text
run_joined test [] = refl
run_joined test (b ∷ text) = elim (is_true_or_false (test b)) [
  | inl h ↦ rw h (ap (λ x. b ∷ x) (run_joined test text))
  | inr h ↦ rw h refl
]

pub no_filled : (tail : List ℕ) → begins_argument tail ≡ false → (run_of is_filled tail ≡ []) × (after_run is_filled tail ≡ tail)
no_filled [] e = (refl, refl)
no_filled (b ∷ tail) e = (rw e refl, rw e refl)

pub no_space : (bytes tail : List ℕ) → list_all is_filled bytes ≡ true → bytes ≢ [] → after_run is_space (bytes ++ tail) ≡ bytes ++ tail
no_space [] tail a n = absurd (n refl)
no_space (b ∷ bytes) tail a n = let p = both (is_filled b) (list_all is_filled bytes) a in rw (not_true (is_space b) p.0) refl

start_unspaced : (k : Kind) → CanSpell (Argument k) → (is_unspaced (first_stage k) ≡ true) × (is_solid (Argument k) ≡ true)
start_unspaced (Exact bytes) c = let p = both (not (length bytes == 0)) (list_all is_filled bytes) c in (p.1, p.0)
start_unspaced (Text PlainName) c = (refl, refl)
start_unspaced (Text GroupPath) c = (refl, refl)
start_unspaced (Text PathPattern) c = (refl, refl)
start_unspaced (Text NotLong) c = (refl, refl)
start_unspaced (Text PartPattern) c = (refl, refl)
start_unspaced (Text HostPath) c = (refl, refl)
start_unspaced PlainNumber c = (refl, refl)
start_unspaced Sized c = (refl, refl)
start_unspaced HexBytes c = (refl, refl)
start_unspaced HexByte c = (refl, refl)

argument_spelling : (k : Kind) (text : List ℕ) → CanSpell (Argument k) → Spelling (Argument k) text
argument_spelling k text c =
    let u = start_unspaced k c in
    let run : List ℕ = run_of is_filled text in
    let s : List ℕ = filled (first_stage k) run in
    let all : list_all is_filled s ≡ true = filled_unspaced (first_stage k) run u.0 (run_words is_filled text) in
    let of : is_of k s ≡ true = filled_accepted (first_stage k) run in
    let said = of_says k s of in (
      s,
      λ tail e.
          let n = no_filled tail e in
          let r : run_of is_filled (s ++ tail) ≡ s = run_all is_filled s tail all n.0 in
          let a : after_run is_filled (s ++ tail) ≡ tail = rest_all is_filled s tail all n.1 in
          record {
            says = said.0;
            fit_is = rw (r, a, said.1) refl;
            start = no_space s tail all (of_run k s u.1 of);
            far = subst (λ x. near_from (first_stage k) run ≤ common x (s ++ tail)) (run_joined is_filled text)
                (let f = filled_far (first_stage k) run tail in let g = common_longer run (s ++ tail) (after_run is_filled text) in omega arith);
          },
    )

pub spelling : (w : Word) (text : List ℕ) → CanSpell w → fit_here w text ≡ None → Spelling w text
spelling (Keyword k) text s e = as_word (Keyword k) text (key_spelling k text s)
spelling (Mark m) text s e = as_word (Mark m) text (mark_spelling m text s e)
spelling Name text s e = as_word Name text (name_spelling text e)
spelling Number text s e = as_word Number text (number_spelling text)
spelling Size text s e = as_word Size text (size_spelling text)
spelling Minutes text s e = as_word Minutes text (minutes_spelling text)
spelling Quoted text s e = as_word Quoted text (quoted_spelling text e)
spelling (Argument k) text s e = argument_spelling k text s
spelling End text s e = absurd s
