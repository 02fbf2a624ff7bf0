-- What is written is read again.
use Rattle.std.proofs.Common.{◌≡◌, ◌≢◌, ℕ, zero, suc, ◌+◌, ◌-◌, ◌*◌, ◌/◌, ◌%◌, ◌^◌, ◌<◌, ◌≤◌, Bool, true, false, ◌&&◌, ◌||◌, not, nat_lt, ◌⊎◌, inl, inr, List, [], ◌∷◌, ◌++◌, length, map, refl, sym, ap, subst, ◌∙◌, Some, None, arith, append_assoc, lit≤}
use Rattle.std.proofs.Math.Nat.{pow-suc}
use Rattle.std.specs.Prelude.{◌==◌, if◌then◌else◌}
use Rattle.std.specs.List.{list_all}
use Rattle.std.specs.Fmt.{decimal, digits, digits_onto, digit_glyph}
use Rattle.std.proofs.lemmas.Bool.{eqb-true, eq-eqb, le-leb, lt-ltb}
use Rattle.asm_grammar.specs.Bytes.{is_blank, is_word, is_digit_byte, is_letter_byte, is_text_byte, upper, run_of, after_run}
use Rattle.asm_grammar.specs.Word.{Word, Keyword, Mark, Name, Number, Size, Minutes, Quoted, Argument, End, Meaning, gap, below, digits_after, size_after, fit, to_quote, number_of_text, size_of_text, is_name_word, digits_of, begins_word}
use Rattle.asm_grammar.specs.Writing.{spell, Spells, is_capital}
use Rattle.asm_grammar.proofs.Tests.{both, not_true, one_of, false_unless, is_true_or_false}
use Rattle.asm_grammar.proofs.Apart.{same_self}
use Rattle.asm_grammar.proofs.Near.{digit_is_word, letter_is_word}

pub run_all : (test : ℕ → Bool) (front tail : List ℕ) → list_all test front ≡ true → run_of test tail ≡ [] → run_of test (front ++ tail) ≡ front
run_all test [] tail a e = e
run_all test (b ∷ front) tail a e =
    let p = both (test b) (list_all test front) a in rw p.0 (ap (λ x. b ∷ x) (run_all test front tail p.1 e))

pub rest_all : (test : ℕ → Bool) (front tail : List ℕ) → list_all test front ≡ true → after_run test tail ≡ tail → after_run test (front ++ tail) ≡ tail
rest_all test [] tail a e = e
rest_all test (b ∷ front) tail a e =
    let p = both (test b) (list_all test front) a in rw p.0 (rest_all test front tail p.1 e)

-- DECIMALS

glyph_is : (d : ℕ) → d < 10 → digit_glyph false d ≡ 48 + d
glyph_is d l = rw (lt-ltb d 10 l) refl

glyph_digit : (d : ℕ) → d < 10 → is_digit_byte (48 + d) ≡ true
glyph_digit d l = rw (le-leb 48 (48 + d) (omega arith), le-leb (48 + d) 57 (omega arith)) refl

digit_step : (n d : ℕ) (acc : List ℕ) → d < 10 → digits_after n (digit_glyph false d ∷ acc) ≡ digits_after (n * 10 + d) acc
digit_step n d acc l =
    let g : digit_glyph false d ≡ 48 + d = glyph_is d l in
    let s : (48 + d) - 48 ≡ d = omega arith in
    subst (λ x. digits_after n (x ∷ acc) ≡ digits_after (n * 10 + d) acc) (sym g) (rw (glyph_digit d l, s) refl)

digits_read : (k n : ℕ) (acc : List ℕ) → n < 10 ^ k → digits_after 0 (digits_onto k 10 false n acc) ≡ digits_after n acc
digits_read zero n acc l = let z : n ≡ 0 = (let p : 10 ^ 0 ≡ 1 = refl in omega arith) in ap (λ x. digits_after x acc) (sym z)
digits_read (suc k) n acc l =
    let small : n % 10 < 10 = omega arith in
    elim (is_true_or_false (n / 10 == 0)) [
      | inl h ↦
          (let z : n / 10 ≡ 0 = eqb-true (n / 10) 0 h in
          let e : 0 * 10 + n % 10 ≡ n = omega arith in
          rw h (digit_step 0 (n % 10) acc small ∙ ap (λ x. digits_after x acc) e))
      | inr h ↦
          (let p : 10 ^ suc k ≡ 10 ^ k * 10 = pow-suc 10 k in
          let b : n / 10 < 10 ^ k = omega arith in
          let e : n / 10 * 10 + n % 10 ≡ n = omega arith in
          rw h (digits_read k (n / 10) (digit_glyph false (n % 10) ∷ acc) b ∙ (digit_step (n / 10) (n % 10) acc small ∙ ap (λ x. digits_after x acc) e)))
    ]

all_digits : (k n : ℕ) (acc : List ℕ) → list_all is_digit_byte acc ≡ true → list_all is_digit_byte (digits_onto k 10 false n acc) ≡ true
all_digits zero n acc a = a
all_digits (suc k) n acc a =
    let small : n % 10 < 10 = omega arith in
    let g : digit_glyph false (n % 10) ≡ 48 + n % 10 = glyph_is (n % 10) small in
    let one : list_all is_digit_byte (digit_glyph false (n % 10) ∷ acc) ≡ true =
    subst (λ x. list_all is_digit_byte (x ∷ acc) ≡ true) (sym g) (rw (glyph_digit (n % 10) small) a) in
    elim (is_true_or_false (n / 10 == 0)) [
      | inl h ↦ rw h one
      | inr h ↦ rw h (all_digits k (n / 10) (digit_glyph false (n % 10) ∷ acc) one)
    ]

some_digit : (k n : ℕ) (acc : List ℕ) → digits_onto (suc k) 10 false n acc ≢ []
some_digit zero n acc e = elim (is_true_or_false (n / 10 == 0)) [
  | inl h ↦ (let f = rw h at e in cc)
  | inr h ↦ (let f = rw h at e in cc)
]
some_digit (suc k) n acc e = elim (is_true_or_false (n / 10 == 0)) [
  | inl h ↦ (let f = rw h at e in cc)
  | inr h ↦ some_digit k (n / 10) (digit_glyph false (n % 10) ∷ acc) (rw h at e)
]

ten_pow : 2 ^ 64 ≤ 10 ^ 64
ten_pow = lit≤ tt

pub decimal_read : (n : ℕ) → n < 2 ^ 64 → digits_after 0 (decimal n) ≡ Some n
unfolding digits
decimal_read n l = digits_read 64 n [] (omega (arith, ten_pow))

pub decimal_digits : (n : ℕ) → list_all is_digit_byte (decimal n) ≡ true
unfolding digits
decimal_digits n = all_digits 64 n [] refl

pub decimal_some : (n : ℕ) → decimal n ≢ []
unfolding digits
decimal_some n e = some_digit 63 n [] e

-- WORDS

pub not_blank : (b : ℕ) → is_word b ≡ true → is_blank b ≡ false
not_blank b w = false_unless (is_blank b) (λ h.
    elim (one_of ((b == 32) || (b == 9) || (b == 13)) (b == 10) h) [
      | inr e ↦ (let k = subst (λ x. is_word x ≡ true) (eqb-true b 10 e) w in cc)
      | inl h2 ↦ (elim (one_of ((b == 32) || (b == 9)) (b == 13) h2) [
        | inr e ↦ (let k = subst (λ x. is_word x ≡ true) (eqb-true b 13 e) w in cc)
        | inl h3 ↦ (elim (one_of (b == 32) (b == 9) h3) [
          | inr e ↦ (let k = subst (λ x. is_word x ≡ true) (eqb-true b 9 e) w in cc)
          | inl e ↦ (let k = subst (λ x. is_word x ≡ true) (eqb-true b 32 e) w in cc)
        ])
      ])
    ])

pub unblanked : (bytes tail : List ℕ) → list_all is_word bytes ≡ true → bytes ≢ [] → after_run is_blank (bytes ++ tail) ≡ bytes ++ tail
unblanked [] tail a n = absurd (n refl)
unblanked (b ∷ bytes) tail a n = let p = both (is_word b) (list_all is_word bytes) a in rw (not_blank b p.0) refl

pub no_run : (tail : List ℕ) → begins_word tail ≡ false → (run_of is_word tail ≡ []) × (after_run is_word tail ≡ tail)
no_run [] e = (refl, refl)
no_run (b ∷ tail) e = (rw e refl, rw e refl)

all_words : (bytes : List ℕ) → list_all is_digit_byte bytes ≡ true → list_all is_word bytes ≡ true
all_words [] a = refl
all_words (b ∷ bytes) a = let p = both (is_digit_byte b) (list_all is_digit_byte bytes) a in rw (digit_is_word b p.0) (all_words bytes p.1)

pub capital_words : (bytes : List ℕ) → list_all is_capital bytes ≡ true → list_all is_word bytes ≡ true
capital_words [] a = refl
capital_words (b ∷ bytes) a =
    let p = both (is_capital b) (list_all is_capital bytes) a in
    let q = both (is_letter_byte b) (upper b == b) p.0 in rw (letter_is_word b q.0) (capital_words bytes p.1)

pub capital_upper : (bytes : List ℕ) → list_all is_capital bytes ≡ true → map upper bytes ≡ bytes
capital_upper [] a = refl
capital_upper (b ∷ bytes) a =
    let p = both (is_capital b) (list_all is_capital bytes) a in
    let q = both (is_letter_byte b) (upper b == b) p.0 in
    let e : upper b ≡ b = eqb-true (upper b) b q.1 in
    let r = capital_upper bytes p.1 in cc

-- A run of word bytes and what stands behind it are told apart.
pub record Cut (bytes tail : List ℕ) : Type 0 where
  pub start : after_run is_blank (bytes ++ tail) ≡ bytes ++ tail
  pub run : run_of is_word (bytes ++ tail) ≡ bytes
  pub rest : after_run is_word (bytes ++ tail) ≡ tail

pub cut : (bytes tail : List ℕ) → list_all is_word bytes ≡ true → bytes ≢ [] → begins_word tail ≡ false → Cut bytes tail
cut bytes tail a n e =
    let p = no_run tail e in
    record { start = unblanked bytes tail a n; run = run_all is_word bytes tail a p.0; rest = rest_all is_word bytes tail a p.1 }

key_spelled : (k tail : List ℕ) → (not (length k == 0) && list_all is_capital k) ≡ true → begins_word tail ≡ false → fit (Keyword k) (k ++ tail) ≡ Some (tt, tail)
key_spelled k tail s e =
    let p = both (not (length k == 0)) (list_all is_capital k) s in
    let c = cut k tail (capital_words k p.1) (λ h. let g = subst (λ x. not (length x == 0) ≡ true) h p.0 in cc) e in
    rw (c.start, c.run, c.rest, capital_upper k p.1, same_self k) refl

name_spelled : (v tail : List ℕ) → (is_name_word v && list_all is_word v) ≡ true → begins_word tail ≡ false → fit Name (v ++ tail) ≡ Some (v, tail)
name_spelled v tail s e =
    let p = both (is_name_word v) (list_all is_word v) s in
    let c = cut v tail p.1 (λ h. let g = subst (λ x. is_name_word x ≡ true) h p.0 in cc) e in
    rw (c.start, c.run, c.rest, p.0) refl

decimal_cut : (v : ℕ) (tail : List ℕ) → begins_word tail ≡ false → Cut (decimal v) tail
decimal_cut v tail e = cut (decimal v) tail (all_words (decimal v) (decimal_digits v)) (decimal_some v) e

pub number_is : (bytes : List ℕ) (v : ℕ) → bytes ≢ [] → digits_after 0 bytes ≡ Some v → v < 2 ^ 64 → number_of_text bytes ≡ Some v
number_is [] v n e l = absurd (n refl)
number_is (b ∷ bytes) v n e l = rw (e, lt-ltb v (2 ^ 64) l) refl

number_spelled : (v : ℕ) (tail : List ℕ) → v < 2 ^ 64 → begins_word tail ≡ false → fit Number (decimal v ++ tail) ≡ Some (v, tail)
number_spelled v tail l e =
    let c = decimal_cut v tail e in
    rw (c.start, c.run, c.rest, number_is (decimal v) v (decimal_some v) (decimal_read v l) l) refl

size_digits : (n : ℕ) (bytes : List ℕ) → list_all is_digit_byte bytes ≡ true → size_after n bytes ≡ digits_after n bytes
size_digits n [] a = refl
size_digits n (b ∷ bytes) a =
    let p = both (is_digit_byte b) (list_all is_digit_byte bytes) a in rw p.0 (size_digits (n * 10 + (b - 48)) bytes p.1)

size_is : (bytes : List ℕ) (v : ℕ) → bytes ≢ [] → list_all is_digit_byte bytes ≡ true → digits_after 0 bytes ≡ Some v → v < 2 ^ 64 → size_of_text bytes ≡ Some v
size_is [] v n a e l = absurd (n refl)
size_is (b ∷ bytes) v n a e l =
    let p = both (is_digit_byte b) (list_all is_digit_byte bytes) a in
    let s : size_after 0 (b ∷ bytes) ≡ Some v = size_digits 0 (b ∷ bytes) a ∙ e in
    subst (λ x. (if x then below (2 ^ 64) (size_after 0 (b ∷ bytes)) else None) ≡ Some v) (sym p.0)
    (subst (λ o. below (2 ^ 64) o ≡ Some v) (sym s) (rw (lt-ltb v (2 ^ 64) l) refl))

size_spelled : (v : ℕ) (tail : List ℕ) → v < 2 ^ 64 → begins_word tail ≡ false → fit Size (decimal v ++ tail) ≡ Some (v, tail)
size_spelled v tail l e =
    let c = decimal_cut v tail e in
    rw (c.start, c.run, c.rest, size_is (decimal v) v (decimal_some v) (decimal_digits v) (decimal_read v l) l) refl

pub mark_spelled : (m : ℕ) (tail : List ℕ) → is_blank m ≡ false → fit (Mark m) (m ∷ tail) ≡ Some (tt, tail)
mark_spelled m tail n = rw (n, eq-eqb m m refl) refl

pub quote_spelled : (v tail : List ℕ) → list_all is_text_byte v ≡ true → to_quote (v ++ 39 ∷ tail) ≡ Some (v, tail)
quote_spelled [] tail a = refl
quote_spelled (b ∷ v) tail a =
    let p = both (is_text_byte b) (list_all is_text_byte v) a in
    rw (p.0, quote_spelled v tail p.1) refl

quoted_spelled : (v tail : List ℕ) → list_all is_text_byte v ≡ true → fit Quoted ((39 ∷ v ++ 39 ∷ []) ++ tail) ≡ Some (v, tail)
quoted_spelled v tail a = rw (append_assoc v (39 ∷ []) tail) (quote_spelled v tail a)

digits_is : (bytes : List ℕ) → bytes ≢ [] → digits_of bytes ≡ digits_after 0 bytes
digits_is [] n = absurd (n refl)
digits_is (b ∷ bytes) n = refl

minutes_spelled : (v : ℕ) (tail : List ℕ) → v * 60 < 2 ^ 64 → begins_word tail ≡ false → fit Minutes ((decimal v ++ 77 ∷ []) ++ tail) ≡ Some (v, tail)
minutes_spelled v tail l e =
    let d : digits_of (decimal v) ≡ Some v = digits_is (decimal v) (decimal_some v) ∙ decimal_read v (omega arith) in
    let start : after_run is_blank (decimal v ++ 77 ∷ tail) ≡ decimal v ++ 77 ∷ tail = unblanked (decimal v) (77 ∷ tail) (all_words (decimal v) (decimal_digits v)) (decimal_some v) in
    let run : run_of is_digit_byte (decimal v ++ 77 ∷ tail) ≡ decimal v = run_all is_digit_byte (decimal v) (77 ∷ tail) (decimal_digits v) refl in
    let rest : after_run is_digit_byte (decimal v ++ 77 ∷ tail) ≡ 77 ∷ tail = rest_all is_digit_byte (decimal v) (77 ∷ tail) (decimal_digits v) refl in
    let m : v * 1 ≡ v = omega arith in
    let k : nat_lt (v * 60) (2 ^ 64) ≡ true = lt-ltb (v * 60) (2 ^ 64) l in
    rw (append_assoc (decimal v) (77 ∷ []) tail, start, run, rest, d, m, e, k) refl

-- A word that ends by itself, as a mark and a quote do.
abbrev pub is_closed : Word → Bool
is_closed (Mark m) = true
is_closed Quoted = true
is_closed other = false

-- What is spelled is read, with what stands behind it.
pub spelled : (w : Word) (v : Meaning w) (tail : List ℕ) → Spells w v → (is_closed w ≡ true) ⊎ (begins_word tail ≡ false) → fit w (spell w v ++ tail) ≡ Some (v, tail)
spelled (Keyword k) v tail s (inl c) = cc
spelled (Keyword k) v tail s (inr e) = key_spelled k tail s e
spelled (Mark m) v tail s e = mark_spelled m tail (not_true (is_blank m) (both (not (is_blank m)) (not (is_word m)) s).0)
spelled Name v tail s (inl c) = cc
spelled Name v tail s (inr e) = name_spelled v tail s e
spelled Number v tail s (inl c) = cc
spelled Number v tail s (inr e) = number_spelled v tail s e
spelled Size v tail s (inl c) = cc
spelled Size v tail s (inr e) = size_spelled v tail s e
spelled Minutes v tail s (inl c) = cc
spelled Minutes v tail s (inr e) = minutes_spelled v tail s e
spelled Quoted v tail s e = quoted_spelled v tail s
spelled (Argument k) v tail s e = absurd s
spelled End v tail s e = absurd s

-- A space before what may stand before a word makes no difference.
pub space_first : (w : Word) (x : List ℕ) → after_run (gap w) (32 ∷ x) ≡ after_run (gap w) x
space_first (Keyword k) x = refl
space_first (Mark m) x = refl
space_first Name x = refl
space_first Number x = refl
space_first Size x = refl
space_first Minutes x = refl
space_first Quoted x = refl
space_first (Argument k) x = refl
space_first End x = refl
