-- Numbers of which those from a bound on are refused, digit by digit.
use Rattle.std.proofs.Common.{◌≡◌, ◌<◌, ◌≤◌, ◌+◌, ◌-◌, ◌*◌, ◌^◌, ℕ, suc, Bool, true, false, cond, ltb, eqb, not, List, [], ◌∷◌, length, drop, get_or, Option, Some, None, refl, sym, ap, ◌∙◌, arith, add-one, inl, inr, ◌⊎◌}
use Rattle.std.specs.Prelude.{◌&&◌, ◌==◌, nat_lt, if◌then◌else◌}
use Rattle.std.proofs.Math.Seq.{drop-cons}
use Rattle.std.proofs.lemmas.Bool.{lt-ltb, ltb-false, le-ltb, eqb-true, eqb-false}
use Rattle.std.proofs.lemmas.List.{drop_all}
use Rattle.std.proofs.lemmas.Option.{same_Some, none-some}
use Rattle.asm_grammar.specs.Argument.{factor}
use Rattle.asm_grammar.specs.Bytes.{after_run, is_digit_byte, run_of}
use Rattle.asm_grammar.specs.Word.{below, digits_after, number_of_text, size_after, size_of_text, unit_after}
use Rattle.attribute_values.specs.Sizes.{size_behind}

abbrev limit : ℕ
limit = 2 ^ 64

either : (b : Bool) → (b ≡ true) ⊎ (b ≡ false)
either true = inl refl
either false = inr refl

-- digits behind a number that is too great
too_many : (bytes : List ℕ) (n : ℕ) → limit ≤ n → below limit (digits_after n bytes) ≡ None
too_many [] n more = ap (λ (b : Bool). cond b (Some n) None) (le-ltb n limit more)
too_many (b ∷ bytes) n more = elim (either (is_digit_byte b)) [
  | inl digit ↦ rw digit (too_many bytes (n * 10 + (b - 48)) (omega (arith, more)))
  | inr other ↦ rw other refl
]

abbrev pub Reads : List ℕ → ℕ → ℕ → Type 0
Reads digits i number = below limit (digits_after number (drop i digits)) ≡ below limit (digits_after 0 digits)

at_place : (digits : List ℕ) (i b : ℕ) → i < length digits → b ≡ get_or digits i 0 → drop i digits ≡ b ∷ drop (i + 1) digits
at_place digits i b less at = drop-cons digits i 0 less ∙ (ap (λ (z : ℕ). z ∷ drop (suc i) digits) (sym at) ∙ rw add-one refl)

-- one more digit is read
pub one_more : (digits : List ℕ) (i b number next : ℕ) → i < length digits → b ≡ get_or digits i 0 → Reads digits i number
    → Some next ≡ (if is_digit_byte b && nat_lt (number * 10 + (b - 48)) limit then Some (number * 10 + (b - 48)) else None) → Reads digits (i + 1) next
one_more digits i b number next less at reads is = by (is_digit_byte b) (nat_lt (number * 10 + (b - 48)) limit) refl is
  where
    by : (d c : Bool) → is_digit_byte b ≡ d → Some next ≡ (if d && c then Some (number * 10 + (b - 48)) else None) → Reads digits (i + 1) next
    by false c other e = absurd (let same : Some next ≡ None = e in cc)
    by true false digit e = absurd (let same : Some next ≡ None = e in cc)
    by true true digit e =
        let same : next ≡ number * 10 + (b - 48) = cc in
        ap (λ (n : ℕ). below limit (digits_after n (drop (i + 1) digits))) same
        ∙ (sym (rw digit at (ap (λ (bytes : List ℕ). below limit (digits_after number bytes)) (at_place digits i b less at))) ∙ reads)

-- another byte stands among the digits, or the number is too great
pub no_more : (digits : List ℕ) (i b number : ℕ) → i < length digits → b ≡ get_or digits i 0 → Reads digits i number
    → None ≡ (if is_digit_byte b && nat_lt (number * 10 + (b - 48)) limit then Some (number * 10 + (b - 48)) else None) → None ≡ number_of_text digits
no_more [] i b number less at reads is = absurd (omega (arith, less))
no_more (d ∷ digits) i b number less at reads is = sym (sym reads ∙ ap (λ (bytes : List ℕ). below limit (digits_after number bytes)) (at_place (d ∷ digits) i b less at) ∙ by (is_digit_byte b) (nat_lt (number * 10 + (b - 48)) limit) refl refl is)
  where
    by : (e c : Bool) → is_digit_byte b ≡ e → nat_lt (number * 10 + (b - 48)) limit ≡ c → None ≡ (if e && c then Some (number * 10 + (b - 48)) else None)
        → below limit (if e then digits_after (number * 10 + (b - 48)) (drop (i + 1) (d ∷ digits)) else None) ≡ None
    by false c other great e = refl
    by true false digit great e = too_many (drop (i + 1) (d ∷ digits)) (number * 10 + (b - 48)) (ltb-false (number * 10 + (b - 48)) limit great)
    by true true digit small e = absurd (let same : None ≡ Some (number * 10 + (b - 48)) = e in cc)

-- all are read
pub all_read : (digits : List ℕ) (i number : ℕ) → eqb (length digits) 0 ≡ false → number < limit → length digits ≤ i → Reads digits i number → Some number ≡ number_of_text digits
all_read [] i number some less past reads = absurd cc
all_read (d ∷ digits) i number some less past reads =
    sym (ap (λ (b : Bool). cond b (Some number) None) (lt-ltb number limit less))
    ∙ ap (λ (bytes : List ℕ). below limit (digits_after number bytes)) (sym (drop_all i (d ∷ digits) past)) ∙ reads

-- ---- sizes

-- by the number that the digits make
abbrev sized : Option ℕ → List ℕ → Option ℕ
sized None rest = None
sized (Some n) [] = Some n
sized (Some n) (b ∷ rest) = unit_after n b rest

cut : (bytes : List ℕ) (n : ℕ) → size_after n bytes ≡ sized (digits_after n (run_of is_digit_byte bytes)) (after_run is_digit_byte bytes)
cut [] n = refl
cut (b ∷ bytes) n = elim (either (is_digit_byte b)) [
  | inl digit ↦ rw (digit, digit) (cut bytes (n * 10 + (b - 48)))
  | inr other ↦ rw other refl
]

-- a number that is too great makes no size
great_size : (n b : ℕ) → limit ≤ n → (z : Bool) → eqb (factor b) 0 ≡ z → below limit (if z then None else Some (n * factor b)) ≡ None
great_size n b great true none = refl
great_size n b great false some =
    let one : 1 ≤ factor b = positive (factor b) (eqb-false (factor b) 0 some) in
    ap (λ (c : Bool). cond c (Some (n * factor b)) None) (le-ltb (n * factor b) limit (grows n (factor b) great one))
  where
    positive : (k : ℕ) → (k ≡ 0 → ⊥) → 1 ≤ k
    positive k other = omega (arith, other)

    grows : (m k : ℕ) → limit ≤ m → 1 ≤ k → limit ≤ m * k
    grows m k more one = grind arith

no_sized : (o : Option ℕ) (rest : List ℕ) → None ≡ below limit o → None ≡ below limit (sized o rest)
no_sized None rest none = refl
no_sized (Some n) rest none = by (nat_lt n limit) refl none rest
  where
    by : (c : Bool) → nat_lt n limit ≡ c → None ≡ cond c (Some n) None → (bytes : List ℕ) → None ≡ below limit (sized (Some n) bytes)
    by true small is bytes = absurd (let same : None ≡ Some n = is in cc)
    by false great is [] = sym (ap (λ (c : Bool). cond c (Some n) None) great)
    by false great is (b ∷ []) = sym (great_size n b (ltb-false n limit great) (eqb (factor b) 0) refl)
    by false great is (b ∷ c ∷ bytes) = refl

lettered : (n f : ℕ) (z : Bool) → below limit (if z then None else Some (n * f)) ≡ (if not z && nat_lt (n * f) limit then Some (n * f) else None)
lettered n f true = refl
lettered n f false = refl

some_sized : (o : Option ℕ) (n : ℕ) (rest : List ℕ) → Some n ≡ below limit o → size_behind n rest ≡ below limit (sized o rest)
some_sized None n rest is = absurd (let same : Some n ≡ None = is in cc)
some_sized (Some m) n rest is = by (nat_lt m limit) refl is rest
  where
    by : (c : Bool) → nat_lt m limit ≡ c → Some n ≡ cond c (Some m) None → (bytes : List ℕ) → size_behind n bytes ≡ below limit (sized (Some m) bytes)
    by false great e bytes = absurd (let same : Some n ≡ None = e in cc)
    by true small e [] = e ∙ sym (ap (λ (c : Bool). cond c (Some m) None) small)
    by true small e (b ∷ []) =
        let same : n ≡ m = cc in
        sym (lettered n (factor b) (eqb (factor b) 0)) ∙ ap (λ (k : ℕ). below limit (unit_after k b [])) same
    by true small e (b ∷ c ∷ bytes) = refl

module _ (b : ℕ) (bytes : List ℕ) (digit : is_digit_byte b ≡ true) where
  number_run : number_of_text (run_of is_digit_byte (b ∷ bytes)) ≡ below limit (digits_after 0 (run_of is_digit_byte (b ∷ bytes)))
  number_run = rw digit refl

  size_digit : size_of_text (b ∷ bytes) ≡ below limit (sized (digits_after 0 (run_of is_digit_byte (b ∷ bytes))) (after_run is_digit_byte (b ∷ bytes)))
  size_digit = ap (λ (d : Bool). cond d (below limit (size_after 0 (b ∷ bytes))) None) digit ∙ ap (below limit) (cut (b ∷ bytes) 0)

pub no_size : (text : List ℕ) → None ≡ number_of_text (run_of is_digit_byte text) → None ≡ size_of_text text
no_size [] none = refl
no_size (b ∷ bytes) none = elim (either (is_digit_byte b)) [
  | inl digit ↦ no_sized (digits_after 0 (run_of is_digit_byte (b ∷ bytes))) (after_run is_digit_byte (b ∷ bytes)) (none ∙ number_run b bytes digit) ∙ sym (size_digit b bytes digit)
  | inr other ↦ rw other refl
]

pub size_is : (text : List ℕ) (n : ℕ) (size : Option ℕ) → Some n ≡ number_of_text (run_of is_digit_byte text) → size ≡ size_behind n (after_run is_digit_byte text) → size ≡ size_of_text text
size_is [] n size some is = absurd (let same : Some n ≡ None = some in cc)
size_is (b ∷ bytes) n size some is = elim (either (is_digit_byte b)) [
  | inl digit ↦ is ∙ some_sized (digits_after 0 (run_of is_digit_byte (b ∷ bytes))) n (after_run is_digit_byte (b ∷ bytes)) (some ∙ number_run b bytes digit) ∙ sym (size_digit b bytes digit)
  | inr other ↦ absurd (let same : Some n ≡ None = rw other at some in cc)
]
