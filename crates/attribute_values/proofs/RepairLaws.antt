-- Numbers of which those above a bound are alike.
use Rattle.std.proofs.Common.{◌≡◌, ◌<◌, ◌+◌, ◌-◌, ◌*◌, ℕ, suc, min, Bool, true, false, leb, List, [], ◌∷◌, length, drop, get_or, Option, Some, None, refl, sym, ap, ◌∙◌, arith, add-one, inl, inr, ◌⊎◌}
use Rattle.std.specs.Prelude.{◌&&◌, ◌==◌, if◌then◌else◌}
use Rattle.std.specs.Option.{option_map}
use Rattle.std.proofs.Math.Seq.{drop-cons}
use Rattle.std.proofs.lemmas.Bool.{leb-false, leb-true, lt-leb}
use Rattle.asm_grammar.specs.Bytes.{is_digit_byte}
use Rattle.asm_grammar.specs.Word.{digits_after}
use Rattle.asm_world.specs.Settings.{at_most, tenth_of, tenths_of}

either : (b : Bool) → (b ≡ true) ⊎ (b ≡ false)
either true = inl refl
either false = inr refl

-- what is read, where all above 100,000 count as 100,001
abbrev pub bounded : Option ℕ → Option ℕ
bounded o = option_map (min 100001) o

-- digits behind two numbers that are alike
alike : (bytes : List ℕ) (m n : ℕ) → min 100001 m ≡ min 100001 n → bounded (digits_after m bytes) ≡ bounded (digits_after n bytes)
alike [] m n e = ap (λ (k : ℕ). Some k) e
alike (b ∷ bytes) m n e = elim (either (is_digit_byte b)) [
  | inl digit ↦ rw digit (alike bytes (m * 10 + (b - 48)) (n * 10 + (b - 48)) (omega (arith, e)))
  | inr other ↦ rw other refl
]

abbrev pub Reads : List ℕ → ℕ → ℕ → Type 0
Reads digits i number = bounded (digits_after number (drop i digits)) ≡ bounded (digits_after 0 digits)

-- one more digit is read
pub one_more : (digits : List ℕ) (i b number next : ℕ) → i < length digits → b ≡ get_or digits i 0 → Reads digits i number → Some next ≡ (if is_digit_byte b then Some (min 100001 (number * 10 + (b - 48))) else None) → Reads digits (i + 1) next
one_more digits i b number next less at reads is = by (is_digit_byte b) refl is where
  rest : drop i digits ≡ b ∷ drop (i + 1) digits
  rest = drop-cons digits i 0 less ∙ (ap (λ (z : ℕ). z ∷ drop (suc i) digits) (sym at) ∙ rw add-one refl)

  by : (d : Bool) → is_digit_byte b ≡ d → Some next ≡ (if d then Some (min 100001 (number * 10 + (b - 48))) else None) → Reads digits (i + 1) next
  by false other e = absurd (let same : Some next ≡ None = e in cc)
  by true digit e =
      let same : next ≡ min 100001 (number * 10 + (b - 48)) = cc in
      alike (drop (i + 1) digits) next (number * 10 + (b - 48)) (omega (arith, same))
      ∙ (sym (rw digit at (ap (λ (bytes : List ℕ). bounded (digits_after number bytes)) rest)) ∙ reads)

-- another byte stands among the digits
pub no_digit : (digits : List ℕ) (i b number : ℕ) → i < length digits → b ≡ get_or digits i 0 → Reads digits i number → None ≡ (if is_digit_byte b then Some (min 100001 (number * 10 + (b - 48))) else None) → bounded (digits_after 0 digits) ≡ None
no_digit digits i b number less at reads is = by (is_digit_byte b) refl is where
  rest : drop i digits ≡ b ∷ drop (i + 1) digits
  rest = drop-cons digits i 0 less ∙ (ap (λ (z : ℕ). z ∷ drop (suc i) digits) (sym at) ∙ rw add-one refl)

  by : (d : Bool) → is_digit_byte b ≡ d → None ≡ (if d then Some (min 100001 (number * 10 + (b - 48))) else None) → bounded (digits_after 0 digits) ≡ None
  by true digit e = absurd (let same : None ≡ Some (min 100001 (number * 10 + (b - 48))) = e in cc)
  by false other e = sym reads ∙ rw other at (ap (λ (bytes : List ℕ). bounded (digits_after number bytes)) rest)

-- of a number above 100,000 there are too many tenths
at_most_alike : (n d : ℕ) (unit : Option ℕ) → at_most (min 100001 n * 10 + d) unit ≡ at_most (n * 10 + d) unit
at_most_alike n d None = refl
at_most_alike n d (Some s) = elim (either (leb n 100000)) [
  | inl few ↦ let le = leb-true n 100000 few in let same : min 100001 n ≡ n = omega arith in ap (λ (m : ℕ). at_most (m * 10 + d) (Some s)) same
  | inr many ↦
      let more = leb-false n 100000 many in
      let a : leb (min 100001 n * 10 + d) 1000000 ≡ false = lt-leb (min 100001 n * 10 + d) 1000000 (omega (arith, more)) in
      let b : leb (n * 10 + d) 1000000 ≡ false = lt-leb (n * 10 + d) 1000000 (omega (arith, more)) in
      rw (a, b) refl
]

at_most_whole : (n : ℕ) (unit : Option ℕ) → at_most (min 100001 n * 10) unit ≡ at_most (n * 10) unit
at_most_whole n unit =
    let a : min 100001 n * 10 + 0 ≡ min 100001 n * 10 = omega arith in
    let b : n * 10 + 0 ≡ n * 10 = omega arith in
    ap (λ (m : ℕ). at_most m unit) (sym a) ∙ (at_most_alike n 0 unit ∙ ap (λ (m : ℕ). at_most m unit) b)

behind_point : (c : Bool) (n d : ℕ) (unit : Option ℕ) → (if c then at_most (min 100001 n * 10 + d) unit else None) ≡ (if c then at_most (n * 10 + d) unit else None)
behind_point true n d unit = at_most_alike n d unit
behind_point false n d unit = refl

pub many_are_alike : (n : Option ℕ) (rest : List ℕ) → tenths_of (bounded n) rest ≡ tenths_of n rest
many_are_alike None rest = refl
many_are_alike (Some n) [] = at_most_whole n (tenth_of [])
many_are_alike (Some n) (b ∷ []) = at_most_whole n (tenth_of (b ∷ []))
many_are_alike (Some n) (b ∷ d ∷ unit) = behind_point (b == 46 && is_digit_byte d) n (d - 48) (tenth_of unit)
