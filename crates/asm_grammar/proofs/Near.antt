-- How far a text that fits a word goes with one that doesn't, and with one that fits another word.
use Rattle.std.proofs.Common.{◌≡◌, ℕ, zero, suc, ◌+◌, ◌-◌, ◌*◌, ◌^◌, ◌<◌, ◌≤◌, min, Bool, true, false, ◌&&◌, not, nat_lt, nat_le, inl, inr, List, [], ◌∷◌, length, map, refl, sym, ap, subst, ◌∙◌, Option, Some, None, arith}
use Rattle.std.specs.Prelude.{is_some, ◌==◌, if◌then◌else◌}
use Rattle.std.proofs.Math.Nat.{mul-suc}
use Rattle.std.proofs.lemmas.List.{length-map}
use Rattle.std.proofs.lemmas.Bool.{eqb-true, eq-eqb, leb-true, leb-false, ltb-true, lt-ltb}
use Rattle.asm_grammar.specs.Bytes.{is_blank, is_filled, is_word, is_digit_byte, is_letter_byte, is_text_byte, upper, run_of, after_run, common}
use Rattle.asm_grammar.specs.Argument.{factor, first_stage, is_of, argument_of}
use Rattle.asm_grammar.proofs.Stages.{of_some, of_none, stage_near, near_short}
use Rattle.asm_grammar.specs.Word.{Word, Keyword, Mark, Name, Number, Size, Minutes, Quoted, Argument, End, end_of_text, Meaning, same_bytes, when, with_rest, gap, below, digits_after, unit_after, size_after, fit, fit_here, fits, near, near_here, near_mark, near_quoted, near_quote, near_number, near_size, near_minutes, near_unit, near_digits, mark_of, quoted_of, to_quote, with_byte_before, number_of_text, size_of_text, is_name_word, starts_with_letter, in_minutes, digits_of, minutes_in, begins_word}
use Rattle.asm_grammar.proofs.Tests.{none_of, both, not_true, is_true_or_false, same_is, found_when}
use Rattle.asm_grammar.specs.Reading.{apart, is_solid}
use Rattle.asm_grammar.proofs.Apart.{apart_here, same_gap, rest_of}
use Rattle.asm_grammar.proofs.Outcomes.{chosen}
use Rattle.asm_grammar.proofs.Consumes.{run_and_rest, some_pair, taken, when_true, quote_takes, takes_here}
use Rattle.asm_grammar.proofs.Shared.{at_heads, and_true, past_run, runs_part, key_near, longer_run}

-- BOTH FIT

word_share : (test : ℕ → Bool) (text t rest r : List ℕ) → after_run test text ≡ rest → after_run test t ≡ r → common text t + length rest ≤ length text + common rest r
word_share test text t rest r e k =
    subst (λ x. common text t + length x ≤ length text + common x r) e
    (subst (λ x. common text t + length (after_run test text) ≤ length text + common (after_run test text) x) k
    (omega (arith, past_run test text t, run_and_rest test text)))

pub after_quote : (b : ℕ) (o : Option (List ℕ × List ℕ)) (v rest : List ℕ) → with_byte_before b o ≡ Some (v, rest) → (u : List ℕ) × (o ≡ Some (u, rest))
after_quote b None v rest e = cc
after_quote b (Some (u, t)) v rest e = let q = some_pair e in (u, ap (λ z. Some (u, z)) q.1)

quote_share : (x y v u rest r : List ℕ) → to_quote x ≡ Some (v, rest) → to_quote y ≡ Some (u, r) → common x y ≤ (length x - length rest) + common rest r
quote_share [] y v u rest r e k = cc
quote_share (b ∷ x) [] v u rest r e k = cc
quote_share (b ∷ x) (c ∷ y) v u rest r e k =
    at_heads b c x y _ (λ same.
    let k' : to_quote (b ∷ y) ≡ Some (u, r) = subst (λ z. to_quote (z ∷ y) ≡ Some (u, r)) (sym same) k in
    elim (is_true_or_false (is_text_byte b)) [
      | inl h ↦
          (let p = after_quote b (to_quote x) v rest (rw h at e) in
          let q = after_quote b (to_quote y) u r (rw h at k') in
          omega (arith, quote_share x y p.0 q.0 rest r p.1 q.1, quote_takes x p.0 rest p.1))
      | inr h ↦ (elim (is_true_or_false (b == 39)) [
        | inl f ↦ (let p = some_pair (rw (h, f) at e) in let q = some_pair (rw (h, f) at k') in
            subst (λ z. common x y + 1 ≤ (suc (length x) - length z) + common z r) p.1
            (subst (λ z. common x y + 1 ≤ (suc (length x) - length x) + common x z) q.1 (omega arith)))
        | inr f ↦ absurd (let g = rw (h, f) at e in cc)
      ])
    ])

pub unit_is : (o : Option ℕ) (text : List ℕ) (v : ℕ) (rest : List ℕ) → in_minutes o text ≡ Some (v, rest) → (b : ℕ) × (text ≡ b ∷ rest)
unit_is None text v rest e = cc
unit_is (Some n) [] v rest e = cc
unit_is (Some n) (b ∷ text) v rest e =
    let w = when_true (not (minutes_in b == 0) && not (begins_word text) && nat_lt (n * minutes_in b * 60) (2 ^ 64)) (n * minutes_in b, text) (v, rest) e in
    (b, ap (λ (p : ℕ × List ℕ). b ∷ p.1) w.1)

minutes_share : (text t rest r : List ℕ) (b c : ℕ)
    → after_run is_blank (after_run is_digit_byte text) ≡ b ∷ rest → after_run is_blank (after_run is_digit_byte t) ≡ c ∷ r → common text t + length rest ≤ length text + common rest r
minutes_share text t rest r b c e k =
    let one = past_run is_digit_byte text t in
    let two = past_run is_blank (after_run is_digit_byte text) (after_run is_digit_byte t) in
    let d = run_and_rest is_digit_byte text in
    let f = run_and_rest is_blank (after_run is_digit_byte text) in
    let three : common (b ∷ rest) (c ∷ r) ≤ 1 + common rest r = at_heads b c rest r (1 + common rest r) (λ same. omega arith) in
    let g : common (after_run is_blank (after_run is_digit_byte text)) (after_run is_blank (after_run is_digit_byte t)) ≤ 1 + common rest r = rw (e, k) three in
    let l : length (after_run is_blank (after_run is_digit_byte text)) ≡ suc (length rest) = ap length e in
    omega arith

share_here : (w : Word) (text t : List ℕ) (v u : Meaning w) (rest r : List ℕ) → fit_here w text ≡ Some (v, rest) → fit_here w t ≡ Some (u, r) → common text t + length rest ≤ length text + common rest r
share_here (Keyword k) text t v u rest r e f = word_share is_word text t rest r (taken (after_run is_word text) _ v rest e).1 (taken (after_run is_word t) _ u r f).1
share_here (Mark m) [] t v u rest r e f = cc
share_here (Mark m) (b ∷ text) [] v u rest r e f = cc
share_here (Mark m) (b ∷ text) (c ∷ t) v u rest r e f =
    elim (chosen (b == m) _ _ _ e) [
      | inr p ↦ let q = p.1 in cc
      | inl p ↦ (elim (chosen (c == m) _ _ _ f) [
        | inr q ↦ let g = q.1 in cc
        | inl q ↦ (
            let x : text ≡ rest = (some_pair p.1).1 in
            let y : t ≡ r = (some_pair q.1).1 in
            let h : common (b ∷ text) (c ∷ t) ≤ 1 + common text t = at_heads b c text t (1 + common text t) (λ same. omega arith) in
            let l : length text ≡ length rest = ap length x in
            let z : common text t ≡ common rest r = rw (x, y) refl in omega arith)
      ])
    ]
share_here Name text t v u rest r e f = word_share is_word text t rest r (taken (after_run is_word text) _ v rest e).1 (taken (after_run is_word t) _ u r f).1
share_here Number text t v u rest r e f = word_share is_word text t rest r (taken (after_run is_word text) _ v rest e).1 (taken (after_run is_word t) _ u r f).1
share_here Size text t v u rest r e f = word_share is_word text t rest r (taken (after_run is_word text) _ v rest e).1 (taken (after_run is_word t) _ u r f).1
share_here Minutes text t v u rest r e f =
    let p = unit_is (digits_of (run_of is_digit_byte text)) (after_run is_blank (after_run is_digit_byte text)) v rest e in
    let q = unit_is (digits_of (run_of is_digit_byte t)) (after_run is_blank (after_run is_digit_byte t)) u r f in
    minutes_share text t rest r p.0 q.0 p.1 q.1
share_here (Argument k) text t v u rest r e f = word_share is_filled text t rest r (taken (after_run is_filled text) _ v rest e).1 (taken (after_run is_filled t) _ u r f).1
share_here End [] [] v u rest r e f = let l : 0 ≡ length rest = ap length (some_pair e).1 in omega arith
share_here End [] (c ∷ t) v u rest r e f = cc
share_here End (b ∷ text) t v u rest r e f = cc
share_here Quoted [] t v u rest r e f = cc
share_here Quoted (b ∷ text) [] v u rest r e f = cc
share_here Quoted (b ∷ text) (c ∷ t) v u rest r e f =
    elim (chosen (b == 39) _ _ _ e) [
      | inr p ↦ let q = p.1 in cc
      | inl p ↦ (elim (chosen (c == 39) _ _ _ f) [
        | inr q ↦ let g = q.1 in cc
        | inl q ↦ (
            let h : common (b ∷ text) (c ∷ t) ≤ 1 + common text t = at_heads b c text t (1 + common text t) (λ same. omega arith) in
            omega (arith, quote_share text t v u rest r p.1 q.1, quote_takes text v rest p.1))
      ])
    ]

-- Where both texts begin with the word, they go together no further than what stands behind it does.
pub share : (w : Word) (text t : List ℕ) (v u : Meaning w) (rest r : List ℕ) → fit w text ≡ Some (v, rest) → fit w t ≡ Some (u, r) → common text t + length rest ≤ length text + common rest r
share w text t v u rest r e f =
    omega (arith, share_here w (after_run (gap w) text) (after_run (gap w) t) v u rest r e f, past_run (gap w) text t, run_and_rest (gap w) text)

-- ONE FITS

pub no_rest : {A : Type 0} (r : List ℕ) (o : Option A) → with_rest r o ≡ None → o ≡ None
no_rest r None e = refl
no_rest r (Some x) e = cc

pub not_when : {A : Type 0} (b : Bool) (x : A) → when b x ≡ None → b ≡ false
not_when true x e = cc
not_when false x e = refl

pub letter_is_word : (b : ℕ) → is_letter_byte b ≡ true → is_word b ≡ true
letter_is_word b e = rw e refl

pub digit_is_word : (b : ℕ) → is_digit_byte b ≡ true → is_word b ≡ true
digit_is_word b e = elim (is_true_or_false (is_letter_byte b)) [
  | inl h ↦ letter_is_word b h
  | inr h ↦ rw (h, e) refl
]

pub run_letter : (text : List ℕ) → starts_with_letter text ≡ true → starts_with_letter (run_of is_word text) ≡ true
run_letter [] e = cc
run_letter (b ∷ text) e = rw (letter_is_word b e) e

letter_run : (text : List ℕ) → starts_with_letter (run_of is_word text) ≡ true → starts_with_letter text ≡ true
letter_run [] e = cc
letter_run (b ∷ text) e = elim (is_true_or_false (is_word b)) [
  | inl h ↦ rw h at e
  | inr h ↦ absurd (let f = rw h at e in cc)
]

letters_part : (text t : List ℕ) → starts_with_letter text ≡ false → starts_with_letter t ≡ true → common text t ≤ 0
letters_part [] t e f = omega arith
letters_part (b ∷ text) [] e f = omega arith
letters_part (b ∷ text) (c ∷ t) e f = at_heads b c text t 0 (λ same. absurd (let g = subst (λ x. is_letter_byte x ≡ true) (sym same) f in cc))

name_near : (text t : List ℕ) → is_name_word (run_of is_word text) ≡ false → is_name_word (run_of is_word t) ≡ true → common text t ≤ (if starts_with_letter text then min 30 (length (run_of is_word text)) else 0)
name_near text t e f =
    let q = both (starts_with_letter (run_of is_word t)) (nat_le (length (run_of is_word t)) 30) f in
    let short : length (run_of is_word t) ≤ 30 = leb-true (length (run_of is_word t)) 30 q.1 in
    elim (is_true_or_false (starts_with_letter text)) [
      | inr h ↦ rw h (letters_part text t h (letter_run t q.0))
      | inl h ↦
          let k = and_true (starts_with_letter (run_of is_word text)) (nat_le (length (run_of is_word text)) 30) (run_letter text h) e in
          let long : 30 < length (run_of is_word text) = leb-false (length (run_of is_word text)) 30 k in
          rw h (omega (arith, longer_run is_word text t (omega arith)))
    ]

pub digits_grow : (n : ℕ) (bytes : List ℕ) (v : ℕ) → digits_after n bytes ≡ Some v → n ≤ v
digits_grow n [] v e = let k : n ≡ v = cc in omega arith
digits_grow n (b ∷ bytes) v e = elim (chosen (is_digit_byte b) _ _ _ e) [
  | inl p ↦ omega (arith, digits_grow (n * 10 + (b - 48)) bytes v p.1)
  | inr p ↦ let q = p.1 in cc
]

below_some : (limit : ℕ) (o : Option ℕ) (v : ℕ) → below limit o ≡ Some v → (o ≡ Some v) × (v < limit)
below_some limit None v e = cc
below_some limit (Some n) v e = elim (chosen (nat_lt n limit) _ _ _ e) [
  | inl p ↦ (p.1, let k : n ≡ v = (let q = p.1 in cc) in omega (arith, ltb-true n limit p.0))
  | inr p ↦ let q = p.1 in cc
]

number_near : (n : ℕ) (text t : List ℕ) (x : ℕ) → below (2 ^ 64) (digits_after n (run_of is_word text)) ≡ None → below (2 ^ 64) (digits_after n (run_of is_word t)) ≡ Some x → common text t ≤ near_number n text
number_near n [] t x e f = omega arith
number_near n (b ∷ text) [] x e f = omega arith
number_near n (b ∷ text) (c ∷ t) x e f =
    at_heads b c text t _ (λ same.
    let f' : below (2 ^ 64) (digits_after n (run_of is_word (b ∷ t))) ≡ Some x = subst (λ z. below (2 ^ 64) (digits_after n (run_of is_word (z ∷ t))) ≡ Some x) (sym same) f in
    elim (is_true_or_false (is_digit_byte b)) [
      | inl d ↦
          (let w = digit_is_word b d in
          let m : ℕ = n * 10 + (b - 48) in
          let e2 : below (2 ^ 64) (digits_after m (run_of is_word text)) ≡ None = rw (w, d) at e in
          let f2 : below (2 ^ 64) (digits_after m (run_of is_word t)) ≡ Some x = rw (w, d) at f' in
          let g = below_some (2 ^ 64) (digits_after m (run_of is_word t)) x f2 in
          let l : nat_lt m (2 ^ 64) ≡ true = lt-ltb m (2 ^ 64) (omega (arith, digits_grow m (run_of is_word t) x g.0)) in
          rw (d, l) (omega (arith, number_near m text t x e2 f2)))
      | inr d ↦ (elim (is_true_or_false (is_word b)) [
        | inl w ↦ absurd (let g = rw (w, d) at f' in cc)
        | inr w ↦ absurd (let g = rw w at e in let h = rw w at f' in cc)
      ])
    ])

-- A letter stands for its factor, where there is one and nothing behind it.
unit_of : (n b : ℕ) (bytes : List ℕ) (v : ℕ) → unit_after n b bytes ≡ Some v → (bytes ≡ []) × ((factor b == 0) ≡ false) × (v ≡ n * factor b)
unit_of n b [] v e = elim (chosen (factor b == 0) _ _ _ e) [
  | inl p ↦ let q = p.1 in cc
  | inr p ↦ (refl, p.0, let q = p.1 in cc)
]
unit_of n b (c ∷ bytes) v e = cc

at_least : (n k : ℕ) → (k == 0) ≡ false → n ≤ n * k
at_least n zero e = cc
at_least n (suc k) e = omega (arith, mul-suc n k)

pub size_grow : (n : ℕ) (bytes : List ℕ) (v : ℕ) → size_after n bytes ≡ Some v → n ≤ v
size_grow n [] v e = let k : n ≡ v = cc in omega arith
size_grow n (b ∷ bytes) v e = elim (chosen (is_digit_byte b) _ _ _ e) [
  | inl p ↦ omega (arith, size_grow (n * 10 + (b - 48)) bytes v p.1)
  | inr p ↦ (let u = unit_of n b bytes v p.1 in omega (arith, at_least n (factor b) u.1, u.2))
]

-- Behind a letter that fits, the other text has another byte of a word, and this one has none.
unit_parts : (n b : ℕ) (text t : List ℕ) → run_of is_word t ≡ [] → (factor b == 0) ≡ false → nat_lt (n * factor b) (2 ^ 64) ≡ true
    → below (2 ^ 64) (unit_after n b (run_of is_word text)) ≡ None → common text t + 1 ≤ 1
unit_parts n b text t none f l e =
    elim (run_of is_word text) as (λ r. run_of is_word text ≡ r → below (2 ^ 64) (unit_after n b r) ≡ None → common text t + 1 ≤ 1) [
      | [] ↦ λ k h. absurd (let g = rw (f, l) at h in cc)
      | c ∷ r ↦ λ k h.
          (let z : length (run_of is_word t) ≡ 0 = ap length none in
          let y : length (run_of is_word text) ≡ suc (length r) = ap length k in
          omega (arith, longer_run is_word text t (omega arith)))
    ] refl e

size_near : (n : ℕ) (text t : List ℕ) (x : ℕ) → below (2 ^ 64) (size_after n (run_of is_word text)) ≡ None → below (2 ^ 64) (size_after n (run_of is_word t)) ≡ Some x → common text t ≤ near_size n text
size_near n [] t x e f = omega arith
size_near n (b ∷ text) [] x e f = omega arith
size_near n (b ∷ text) (c ∷ t) x e f =
    at_heads b c text t _ (λ same.
    let f' : below (2 ^ 64) (size_after n (run_of is_word (b ∷ t))) ≡ Some x = subst (λ z. below (2 ^ 64) (size_after n (run_of is_word (z ∷ t))) ≡ Some x) (sym same) f in
    elim (is_true_or_false (is_digit_byte b)) [
      | inl d ↦
          (let w = digit_is_word b d in
          let m : ℕ = n * 10 + (b - 48) in
          let e2 : below (2 ^ 64) (size_after m (run_of is_word text)) ≡ None = rw (w, d) at e in
          let f2 : below (2 ^ 64) (size_after m (run_of is_word t)) ≡ Some x = rw (w, d) at f' in
          let g = below_some (2 ^ 64) (size_after m (run_of is_word t)) x f2 in
          let l : nat_lt m (2 ^ 64) ≡ true = lt-ltb m (2 ^ 64) (omega (arith, size_grow m (run_of is_word t) x g.0)) in
          rw (d, l) (omega (arith, size_near m text t x e2 f2)))
      | inr d ↦ (elim (is_true_or_false (is_word b)) [
        | inl w ↦
            (let e2 : below (2 ^ 64) (unit_after n b (run_of is_word text)) ≡ None = rw (w, d) at e in
            let f2 : below (2 ^ 64) (unit_after n b (run_of is_word t)) ≡ Some x = rw (w, d) at f' in
            let g = below_some (2 ^ 64) (unit_after n b (run_of is_word t)) x f2 in
            let u = unit_of n b (run_of is_word t) x g.0 in
            let l : nat_lt (n * factor b) (2 ^ 64) ≡ true = lt-ltb (n * factor b) (2 ^ 64) (omega (arith, u.2)) in
            rw (d, u.1, l) (unit_parts n b text t u.0 u.1 l e2))
        | inr w ↦ absurd (let g = rw w at e in let h = rw w at f' in cc)
      ])
    ])

words_part : (text t : List ℕ) → begins_word text ≡ true → begins_word t ≡ false → common text t ≤ 0
words_part [] t e f = omega arith
words_part (b ∷ text) [] e f = omega arith
words_part (b ∷ text) (c ∷ t) e f = at_heads b c text t 0 (λ same. absurd (let g = subst (λ x. is_word x ≡ false) (sym same) f in cc))

-- What stands where minutes or hours are read.
pub record UnitParts (n b : ℕ) (t : List ℕ) : Type 0 where
  pub letter : not (minutes_in b == 0) ≡ true
  pub alone : not (begins_word t) ≡ true
  pub bound : nat_lt (n * minutes_in b * 60) (2 ^ 64) ≡ true

pub unit_fits : (n b : ℕ) (t : List ℕ) (v : ℕ) (r : List ℕ) → in_minutes (Some n) (b ∷ t) ≡ Some (v, r) → UnitParts n b t
unit_fits n b t v r e =
    let w = when_true (not (minutes_in b == 0) && not (begins_word t) && nat_lt (n * minutes_in b * 60) (2 ^ 64)) (n * minutes_in b, t) (v, r) e in
    let p = both (not (minutes_in b == 0) && not (begins_word t)) (nat_lt (n * minutes_in b * 60) (2 ^ 64)) w.0 in
    let q = both (not (minutes_in b == 0)) (not (begins_word t)) p.0 in
    record { letter = q.0; alone = q.1; bound = p.1 }

not_false : (a : Bool) → not a ≡ false → a ≡ true
not_false true e = refl
not_false false e = cc

three_false : (a b c : Bool) → (a && b && c) ≡ false → a ≡ true → c ≡ true → b ≡ false
three_false true true true e f g = cc
three_false true false c e f g = refl
three_false true true false e f g = cc
three_false false b c e f g = cc

unit_near : (n : ℕ) (text t : List ℕ) (v : ℕ) (r : List ℕ) → in_minutes (Some n) (after_run is_blank text) ≡ None → in_minutes (Some n) (after_run is_blank t) ≡ Some (v, r) → common text t ≤ near_unit n text
unit_near n [] t v r e f = omega arith
unit_near n (b ∷ text) [] v r e f = omega arith
unit_near n (b ∷ text) (c ∷ t) v r e f =
    at_heads b c text t _ (λ same.
    let f' : in_minutes (Some n) (after_run is_blank (b ∷ t)) ≡ Some (v, r) = subst (λ z. in_minutes (Some n) (after_run is_blank (z ∷ t)) ≡ Some (v, r)) (sym same) f in
    elim (is_true_or_false (is_blank b)) [
      | inl d ↦
          (let e2 : in_minutes (Some n) (after_run is_blank text) ≡ None = rw d at e in
          let f2 : in_minutes (Some n) (after_run is_blank t) ≡ Some (v, r) = rw d at f' in
          rw d (omega (arith, unit_near n text t v r e2 f2)))
      | inr d ↦
          (let e2 : in_minutes (Some n) (b ∷ text) ≡ None = rw d at e in
          let f2 : in_minutes (Some n) (b ∷ t) ≡ Some (v, r) = rw d at f' in
          let u = unit_fits n b t v r f2 in
          let w = not_when (not (minutes_in b == 0) && not (begins_word text) && nat_lt (n * minutes_in b * 60) (2 ^ 64)) (n * minutes_in b, text) e2 in
          let x = three_false (not (minutes_in b == 0)) (not (begins_word text)) (nat_lt (n * minutes_in b * 60) (2 ^ 64)) w u.letter u.bound in
          let y = not_false (begins_word text) x in
          rw (d, u.letter, u.bound) (omega (arith, words_part text t y (not_true (begins_word t) u.alone))))
    ])

pub minutes_bound : (m : ℕ) (bytes text : List ℕ) (v : ℕ) (r : List ℕ) → in_minutes (digits_after m bytes) text ≡ Some (v, r) → nat_lt (m * 60) (2 ^ 64) ≡ true
minutes_bound m bytes text v r e =
    elim (digits_after m bytes) as (λ o. digits_after m bytes ≡ o → in_minutes o text ≡ Some (v, r) → nat_lt (m * 60) (2 ^ 64) ≡ true) [
      | None ↦ λ k h. cc
      | Some n ↦ λ k h.
          elim text as (λ x. in_minutes (Some n) x ≡ Some (v, r) → nat_lt (m * 60) (2 ^ 64) ≡ true) [
            | [] ↦ λ i. cc
            | b ∷ t ↦ λ i.
                (let u = unit_fits n b t v r i in
                let g : m ≤ n = digits_grow m bytes n k in
                let a : n ≤ n * minutes_in b = at_least n (minutes_in b) (not_true (minutes_in b == 0) u.letter) in
                let l : n * minutes_in b * 60 < 2 ^ 64 = ltb-true (n * minutes_in b * 60) (2 ^ 64) u.bound in
                lt-ltb (m * 60) (2 ^ 64) (omega arith))
          ] h
    ] refl e

minutes_near : (n : ℕ) (text t : List ℕ) (v : ℕ) (r : List ℕ)
    → in_minutes (digits_after n (run_of is_digit_byte text)) (after_run is_blank (after_run is_digit_byte text)) ≡ None
    → in_minutes (digits_after n (run_of is_digit_byte t)) (after_run is_blank (after_run is_digit_byte t)) ≡ Some (v, r) → common text t ≤ near_minutes n text
minutes_near n [] t v r e f = omega arith
minutes_near n (b ∷ text) [] v r e f = omega arith
minutes_near n (b ∷ text) (c ∷ t) v r e f =
    at_heads b c text t _ (λ same.
    let f' : in_minutes (digits_after n (run_of is_digit_byte (b ∷ t))) (after_run is_blank (after_run is_digit_byte (b ∷ t))) ≡ Some (v, r)
    = subst (λ z. in_minutes (digits_after n (run_of is_digit_byte (z ∷ t))) (after_run is_blank (after_run is_digit_byte (z ∷ t))) ≡ Some (v, r)) (sym same) f in
    elim (is_true_or_false (is_digit_byte b)) [
      | inl d ↦
          (let m : ℕ = n * 10 + (b - 48) in
          let e2 : in_minutes (digits_after m (run_of is_digit_byte text)) (after_run is_blank (after_run is_digit_byte text)) ≡ None = rw (d, d) at e in
          let f2 : in_minutes (digits_after m (run_of is_digit_byte t)) (after_run is_blank (after_run is_digit_byte t)) ≡ Some (v, r) = rw (d, d) at f' in
          let l : nat_lt (m * 60) (2 ^ 64) ≡ true = minutes_bound m (run_of is_digit_byte t) (after_run is_blank (after_run is_digit_byte t)) v r f2 in
          rw (d, l) (omega (arith, minutes_near m text t v r e2 f2)))
      | inr d ↦
          (let e2 : in_minutes (Some n) (after_run is_blank (b ∷ text)) ≡ None = rw d at e in
          let f2 : in_minutes (Some n) (after_run is_blank (b ∷ t)) ≡ Some (v, r) = rw d at f' in
          let k : common (b ∷ text) (b ∷ t) ≤ near_unit n (b ∷ text) = unit_near n (b ∷ text) (b ∷ t) v r e2 f2 in
          let s : common (b ∷ text) (b ∷ t) ≡ common text t + 1 = rw (eq-eqb b b refl) refl in
          rw d (omega arith))
    ])

digits_begin : (near : ℕ → List ℕ → ℕ) (b c : ℕ) (text t : List ℕ) → (is_digit_byte b ≡ true → common (b ∷ text) (c ∷ t) ≤ near 0 (b ∷ text))
    → (is_digit_byte b ≡ false → b ≡ c → ⊥) → common (b ∷ text) (c ∷ t) ≤ near_digits near (b ∷ text)
digits_begin n b c text t at_digit at_other = elim (is_true_or_false (is_digit_byte b)) [
  | inl d ↦ rw d (at_digit d)
  | inr d ↦ rw d (at_heads b c text t 0 (λ same. absurd (at_other d same)))
]

number_first : (text t : List ℕ) (x : ℕ) → number_of_text (run_of is_word text) ≡ None → number_of_text (run_of is_word t) ≡ Some x → common text t ≤ near_digits near_number text
number_first [] t x e f = omega arith
number_first (b ∷ text) [] x e f = omega arith
number_first (b ∷ text) (c ∷ t) x e f =
    digits_begin near_number b c text t
    (λ d.
    let w = digit_is_word b d in
    let e2 : number_of_text (b ∷ run_of is_word text) ≡ None = rw w at e in
    let e3 : below (2 ^ 64) (digits_after 0 (run_of is_word (b ∷ text))) ≡ None = rw w e2 in
    elim (is_true_or_false (is_word c)) [
      | inl y ↦
          (let f2 : number_of_text (c ∷ run_of is_word t) ≡ Some x = rw y at f in
          let f3 : below (2 ^ 64) (digits_after 0 (run_of is_word (c ∷ t))) ≡ Some x = rw y f2 in
          number_near 0 (b ∷ text) (c ∷ t) x e3 f3)
      | inr y ↦ absurd (let g = rw y at f in cc)
    ])
    (λ d same.
    let f' : number_of_text (run_of is_word (b ∷ t)) ≡ Some x = subst (λ z. number_of_text (run_of is_word (z ∷ t)) ≡ Some x) (sym same) f in
    elim (is_true_or_false (is_word b)) [
      | inl w ↦ (let g = rw (w, d) at f' in cc)
      | inr w ↦ (let g = rw w at f' in cc)
    ])

sized_digit : (b : ℕ) (u : List ℕ) (o : Option ℕ) → is_digit_byte b ≡ true → size_of_text (b ∷ u) ≡ o → below (2 ^ 64) (size_after 0 (b ∷ u)) ≡ o
sized_digit b u o d e = elim (chosen (is_digit_byte b) _ _ _ e) [
  | inl p ↦ p.1
  | inr p ↦ absurd (let q = p.0 in cc)
]

sized_some : (b : ℕ) (u : List ℕ) (x : ℕ) → size_of_text (b ∷ u) ≡ Some x → below (2 ^ 64) (size_after 0 (b ∷ u)) ≡ Some x
sized_some b u x e = elim (chosen (is_digit_byte b) _ _ _ e) [
  | inl p ↦ p.1
  | inr p ↦ absurd (let q = p.1 in cc)
]

size_first : (text t : List ℕ) (x : ℕ) → size_of_text (run_of is_word text) ≡ None → size_of_text (run_of is_word t) ≡ Some x → common text t ≤ near_digits near_size text
size_first [] t x e f = omega arith
size_first (b ∷ text) [] x e f = omega arith
size_first (b ∷ text) (c ∷ t) x e f =
    digits_begin near_size b c text t
    (λ d.
    let w = digit_is_word b d in
    let e1 : size_of_text (b ∷ run_of is_word text) ≡ None = rw w at e in
    let e2 : below (2 ^ 64) (size_after 0 (run_of is_word (b ∷ text))) ≡ None = rw w (sized_digit b (run_of is_word text) None d e1) in
    elim (is_true_or_false (is_word c)) [
      | inl y ↦
          (let f1 : size_of_text (c ∷ run_of is_word t) ≡ Some x = rw y at f in
          let f3 : below (2 ^ 64) (size_after 0 (run_of is_word (c ∷ t))) ≡ Some x = rw y (sized_some c (run_of is_word t) x f1) in
          size_near 0 (b ∷ text) (c ∷ t) x e2 f3)
      | inr y ↦ absurd (let g = rw y at f in cc)
    ])
    (λ d same.
    let f' : size_of_text (run_of is_word (b ∷ t)) ≡ Some x = subst (λ z. size_of_text (run_of is_word (z ∷ t)) ≡ Some x) (sym same) f in
    elim (is_true_or_false (is_word b)) [
      | inl w ↦ (let g = rw (w, d) at f' in cc)
      | inr w ↦ (let g = rw w at f' in cc)
    ])

-- digits_of a run of digits, where there is one
pub run_digits : (b : ℕ) (text : List ℕ) → is_digit_byte b ≡ true → digits_of (run_of is_digit_byte (b ∷ text)) ≡ digits_after 0 (run_of is_digit_byte (b ∷ text))
run_digits b text d = rw d refl

no_digits : (b : ℕ) (text : List ℕ) → is_digit_byte b ≡ false → digits_of (run_of is_digit_byte (b ∷ text)) ≡ None
no_digits b text d = rw d refl

minutes_first : (text t : List ℕ) (v : ℕ) (r : List ℕ)
    → in_minutes (digits_of (run_of is_digit_byte text)) (after_run is_blank (after_run is_digit_byte text)) ≡ None
    → in_minutes (digits_of (run_of is_digit_byte t)) (after_run is_blank (after_run is_digit_byte t)) ≡ Some (v, r) → common text t ≤ near_digits near_minutes text
minutes_first [] t v r e f = omega arith
minutes_first (b ∷ text) [] v r e f = omega arith
minutes_first (b ∷ text) (c ∷ t) v r e f =
    elim (is_true_or_false (is_digit_byte c)) [
      | inr n ↦ absurd (let g = subst (λ o. in_minutes o (after_run is_blank (after_run is_digit_byte (c ∷ t))) ≡ Some (v, r)) (no_digits c t n) f in cc)
      | inl y ↦
          digits_begin near_minutes b c text t
          (λ d. minutes_near 0 (b ∷ text) (c ∷ t) v r
          (subst (λ o. in_minutes o (after_run is_blank (after_run is_digit_byte (b ∷ text))) ≡ None) (run_digits b text d) e)
          (subst (λ o. in_minutes o (after_run is_blank (after_run is_digit_byte (c ∷ t))) ≡ Some (v, r)) (run_digits c t y) f))
          (λ d same. let g = subst (λ x. is_digit_byte x ≡ true) (sym same) y in cc)
    ]

mark_near : (m : ℕ) (text t : List ℕ) (r : List ℕ) → mark_of m text ≡ None → mark_of m t ≡ Some (tt, r) → common text t ≤ near_mark m text
mark_near m [] t r e f = omega arith
mark_near m (b ∷ text) [] r e f = omega arith
mark_near m (b ∷ text) (c ∷ t) r e f =
    elim (chosen (c == m) _ _ _ f) [
      | inr p ↦ let q = p.1 in cc
      | inl p ↦ at_heads b c text t _ (λ same.
          let g : (b == m) ≡ true = subst (λ x. (x == m) ≡ true) (sym same) p.0 in absurd (let h = rw g at e in cc))
    ]

pub none_behind : (b : ℕ) (o : Option (List ℕ × List ℕ)) → with_byte_before b o ≡ None → o ≡ None
none_behind b None e = refl
none_behind b (Some cut) e = cc

pub open_quote : (text : List ℕ) → to_quote text ≡ None → near_quote text ≡ length (run_of is_text_byte text)
open_quote [] e = refl
open_quote (b ∷ text) e = elim (is_true_or_false (is_text_byte b)) [
  | inl h ↦ rw h (let k = open_quote text (none_behind b (to_quote text) (rw h at e)) in omega arith)
  | inr h ↦ (elim (is_true_or_false (b == 39)) [
    | inl f ↦ absurd (let g = rw (h, f) at e in cc)
    | inr f ↦ rw (h, f) refl
  ])
]

quote_near : (x t u r : List ℕ) → to_quote x ≡ None → to_quote t ≡ Some (u, r) → common x t ≤ near_quote x
quote_near [] t u r e f = omega arith
quote_near (b ∷ x) [] u r e f = omega arith
quote_near (b ∷ x) (c ∷ t) u r e f =
    at_heads b c x t _ (λ same.
    let f' : to_quote (b ∷ t) ≡ Some (u, r) = subst (λ z. to_quote (z ∷ t) ≡ Some (u, r)) (sym same) f in
    elim (is_true_or_false (is_text_byte b)) [
      | inl h ↦
          (let p = after_quote b (to_quote t) u r (rw h at f') in
          rw h (omega (arith, quote_near x t p.0 r (none_behind b (to_quote x) (rw h at e)) p.1)))
      | inr h ↦ (elim (is_true_or_false (b == 39)) [
        | inl k ↦ absurd (let g = rw (h, k) at e in cc)
        | inr k ↦ absurd (let g = rw (h, k) at f' in cc)
      ])
    ])

quoted_near : (text t : List ℕ) (u r : List ℕ) → quoted_of text ≡ None → quoted_of t ≡ Some (u, r) → common text t ≤ near_quoted text
quoted_near [] t u r e f = omega arith
quoted_near (b ∷ text) [] u r e f = omega arith
quoted_near (b ∷ text) (c ∷ t) u r e f =
    elim (chosen (c == 39) _ _ _ f) [
      | inr p ↦ let q = p.1 in cc
      | inl p ↦ at_heads b c text t _ (λ same.
          let g : (b == 39) ≡ true = subst (λ x. (x == 39) ≡ true) (sym same) p.0 in
          let h : to_quote text ≡ None = rw g at e in
          rw g (omega (arith, quote_near text t u r h p.1)))
    ]

near_law_here : (w : Word) (text t : List ℕ) (u : Meaning w) (r : List ℕ) → fit_here w text ≡ None → fit_here w t ≡ Some (u, r) → common text t ≤ near_here w text
near_law_here (Keyword k) text t u r e f =
    let p = taken (after_run is_word t) (when (same_bytes (map upper (run_of is_word t)) k) tt) u r f in
    let q = when_true (same_bytes (map upper (run_of is_word t)) k) tt u p.0 in
    let n = not_when (same_bytes (map upper (run_of is_word text)) k) tt (no_rest (after_run is_word text) _ e) in
    key_near text t k (same_is (map upper (run_of is_word t)) k q.0) n
near_law_here (Mark m) text t u r e f = mark_near m text t r e f
near_law_here Name text t u r e f =
    let p = taken (after_run is_word t) (when (is_name_word (run_of is_word t)) (run_of is_word t)) u r f in
    let q = when_true (is_name_word (run_of is_word t)) (run_of is_word t) u p.0 in
    name_near text t (not_when (is_name_word (run_of is_word text)) (run_of is_word text) (no_rest (after_run is_word text) _ e)) q.0
near_law_here Number text t u r e f =
    number_first text t u (no_rest (after_run is_word text) (number_of_text (run_of is_word text)) e) (taken (after_run is_word t) (number_of_text (run_of is_word t)) u r f).0
near_law_here Size text t u r e f =
    size_first text t u (no_rest (after_run is_word text) (size_of_text (run_of is_word text)) e) (taken (after_run is_word t) (size_of_text (run_of is_word t)) u r f).0
near_law_here Minutes text t u r e f = minutes_first text t u r e f
near_law_here Quoted text t u r e f = quoted_near text t u r e f
near_law_here (Argument k) text t u r e f =
    stage_near (first_stage k) text t (of_none k (run_of is_filled text) (no_rest (after_run is_filled text) (argument_of k (run_of is_filled text)) e))
    (of_some k (run_of is_filled t) u (taken (after_run is_filled t) (argument_of k (run_of is_filled t)) u r f).0)
near_law_here End [] t u r e f = cc
near_law_here End (b ∷ text) [] u r e f = omega arith
near_law_here End (b ∷ text) (c ∷ t) u r e f = cc

-- A text that doesn't begin with the word goes with one that does no further than this.
pub near_law : (w : Word) (text t : List ℕ) (u : Meaning w) (r : List ℕ) → fit w text ≡ None → fit w t ≡ Some (u, r) → common text t ≤ near w text
near_law w text t u r e f =
    omega (arith, near_law_here w (after_run (gap w) text) (after_run (gap w) t) u r e f, past_run (gap w) text t)

-- ONE FITS EACH

quote_part : (x y v rest : List ℕ) → to_quote x ≡ Some (v, rest) → to_quote y ≡ None → common x y + length rest ≤ length x
quote_part [] y v rest e f = cc
quote_part (b ∷ x) [] v rest e f = omega (arith, quote_takes (b ∷ x) v rest e)
quote_part (b ∷ x) (c ∷ y) v rest e f =
    let l = quote_takes (b ∷ x) v rest e in
    elim (is_true_or_false (b == c)) [
      | inr n ↦ (let z : common (b ∷ x) (c ∷ y) ≡ 0 = rw n refl in omega arith)
      | inl s ↦
          let same : b ≡ c = eqb-true b c s in
          let z : common (b ∷ x) (c ∷ y) ≡ common x y + 1 = rw s refl in
          let f' : to_quote (b ∷ y) ≡ None = subst (λ k. to_quote (k ∷ y) ≡ None) (sym same) f in
          elim (is_true_or_false (is_text_byte b)) [
            | inl q ↦
                (let p = after_quote b (to_quote x) v rest (rw q at e) in
                let k = quote_part x y p.0 rest p.1 (none_behind b (to_quote y) (rw q at f')) in omega arith)
            | inr q ↦ (elim (is_true_or_false (b == 39)) [
              | inl h ↦ absurd (let g = rw (q, h) at f' in cc)
              | inr h ↦ absurd (let g = rw (q, h) at e in cc)
            ])
          ]
    ]

sharp_end : (w : Word) (text t : List ℕ) (v : Meaning w) (rest : List ℕ) → is_solid w ≡ true → fit_here w text ≡ Some (v, rest) → is_some (end_of_text t) ≡ true → common text t + length rest ≤ length text
sharp_end w [] [] v rest s e f = let l = takes_here w [] v rest s e in omega arith
sharp_end w (b ∷ text) [] v rest s e f = let l = takes_here w (b ∷ text) v rest s e in omega arith
sharp_end w text (c ∷ t) v rest s e f = cc

sharp_here : (w other : Word) (text t : List ℕ) (v : Meaning w) (rest : List ℕ) → apart w other ≡ true → fit_here w text ≡ Some (v, rest) → is_some (fit_here other t) ≡ true → common text t + length rest ≤ length text
sharp_here (Keyword k) other text t v rest a e f =
    let p = taken (after_run is_word text) (when (same_bytes (map upper (run_of is_word text)) k) tt) v rest e in
    let q = when_true (same_bytes (map upper (run_of is_word text)) k) tt v p.0 in
    let n = apart_here (Keyword k) other t a f in
    let m : same_bytes (map upper (run_of is_word t)) k ≡ false = sym (found_when {A = Unit {0}} (after_run is_word t) (same_bytes (map upper (run_of is_word t)) k) tt) ∙ n in
    let l : length (after_run is_word text) ≡ length rest = ap length p.1 in
    omega (arith, runs_part is_word text t (λ h. let g = subst (λ z. same_bytes (map upper z) k ≡ true) h q.0 in cc), run_and_rest is_word text)
sharp_here (Mark m) other [] t v rest a e f = cc
sharp_here (Mark m) other (b ∷ text) [] v rest a e f = omega (arith, takes_here (Mark m) (b ∷ text) v rest refl e)
sharp_here (Mark m) other (b ∷ text) (c ∷ t) v rest a e f =
    elim (chosen (b == m) _ _ _ e) [
      | inr p ↦ let q = p.1 in cc
      | inl p ↦
          (let n = apart_here (Mark m) other (c ∷ t) a f in
          let k : common (b ∷ text) (c ∷ t) ≤ 0 = at_heads b c text t 0 (λ same. absurd (let g : (c == m) ≡ true = subst (λ x. (x == m) ≡ true) same p.0 in let h = rw g at n in cc)) in
          omega (arith, takes_here (Mark m) (b ∷ text) v rest refl e))
    ]
sharp_here Quoted other [] t v rest a e f = cc
sharp_here Quoted other (b ∷ text) [] v rest a e f = omega (arith, takes_here Quoted (b ∷ text) v rest refl e)
sharp_here Quoted other (b ∷ text) (c ∷ t) v rest a e f =
    elim (chosen (b == 39) _ _ _ e) [
      | inr p ↦ let q = p.1 in cc
      | inl p ↦
          let n = apart_here Quoted other (c ∷ t) a f in
          let l = takes_here Quoted (b ∷ text) v rest refl e in
          elim (is_true_or_false (b == c)) [
            | inr d ↦ (let z : common (b ∷ text) (c ∷ t) ≡ 0 = rw d refl in omega arith)
            | inl s ↦
                (let z : common (b ∷ text) (c ∷ t) ≡ common text t + 1 = rw s refl in
                let g : (c == 39) ≡ true = subst (λ x. (x == 39) ≡ true) (eqb-true b c s) p.0 in
                let h : is_some (to_quote t) ≡ false = rw g at n in
                let k = quote_part text t v rest p.1 (none_of (to_quote t) h) in omega arith)
          ]
    ]
sharp_here (Argument k) End text t v rest a e f = sharp_end (Argument k) text t v rest a e f
sharp_here (Argument k) (Argument j) text t v rest a e f =
    let p = taken (after_run is_filled text) (argument_of k (run_of is_filled text)) v rest e in
    let y : is_of k (run_of is_filled text) ≡ true = of_some k (run_of is_filled text) v p.0 in
    let n : is_of k (run_of is_filled t) ≡ false = sym (rest_of k t) ∙ apart_here (Argument k) (Argument j) t a f in
    let l : length (after_run is_filled text) ≡ length rest = ap length p.1 in
    omega (arith, runs_part is_filled text t (λ h. let g = subst (λ z. is_of k z ≡ true) h y in cc), run_and_rest is_filled text)
sharp_here (Argument k) other text t v rest a e f = cc
sharp_here Name other text t v rest a e f = cc
sharp_here Number other text t v rest a e f = cc
sharp_here Size other text t v rest a e f = cc
sharp_here Minutes other text t v rest a e f = cc
sharp_here End other text t v rest a e f = cc

-- A text that begins with one word goes with one that begins with another no further than the first word's end.
pub sharp : (w other : Word) (text t : List ℕ) (v : Meaning w) (rest : List ℕ) → apart w other ≡ true → fit w text ≡ Some (v, rest) → fits other t ≡ true → common text t + length rest ≤ length text
sharp w other text t v rest a e f =
    let f' : is_some (fit_here other (after_run (gap w) t)) ≡ true = subst (λ z. is_some (fit_here other (after_run z t)) ≡ true) (sym (same_gap w other a)) f in
    omega (arith, sharp_here w other (after_run (gap w) text) (after_run (gap w) t) v rest a e f', past_run (gap w) text t, run_and_rest (gap w) text)

-- SHORT

pub number_short : (n : ℕ) (text : List ℕ) → near_number n text ≤ length text
number_short n [] = omega arith
number_short n (b ∷ text) = elim (is_true_or_false (is_digit_byte b && nat_lt (n * 10 + (b - 48)) (2 ^ 64))) [
  | inl h ↦ rw h (omega (arith, number_short (n * 10 + (b - 48)) text))
  | inr h ↦ rw h (omega arith)
]

pub size_short : (n : ℕ) (text : List ℕ) → near_size n text ≤ length text
size_short n [] = omega arith
size_short n (b ∷ text) = elim (is_true_or_false (is_digit_byte b && nat_lt (n * 10 + (b - 48)) (2 ^ 64))) [
  | inl h ↦ rw h (omega (arith, size_short (n * 10 + (b - 48)) text))
  | inr h ↦ rw h (elim (is_true_or_false (not (factor b == 0) && nat_lt (n * factor b) (2 ^ 64))) [
    | inl k ↦ rw k (omega arith)
    | inr k ↦ rw k (omega arith)
  ])
]

unit_short : (n : ℕ) (text : List ℕ) → near_unit n text ≤ length text
unit_short n [] = omega arith
unit_short n (b ∷ text) = elim (is_true_or_false (is_blank b)) [
  | inl h ↦ rw h (omega (arith, unit_short n text))
  | inr h ↦ rw h (elim (is_true_or_false (not (minutes_in b == 0) && nat_lt (n * minutes_in b * 60) (2 ^ 64))) [
    | inl k ↦ rw k (omega arith)
    | inr k ↦ rw k (omega arith)
  ])
]

minutes_short : (n : ℕ) (text : List ℕ) → near_minutes n text ≤ length text
minutes_short n [] = omega arith
minutes_short n (b ∷ text) = elim (is_true_or_false (is_digit_byte b)) [
  | inl h ↦ rw h (elim (is_true_or_false (nat_lt ((n * 10 + (b - 48)) * 60) (2 ^ 64))) [
    | inl k ↦ rw k (omega (arith, minutes_short (n * 10 + (b - 48)) text))
    | inr k ↦ rw k (omega arith)
  ])
  | inr h ↦ rw h (omega (arith, unit_short n (b ∷ text)))
]

digits_short : (near : ℕ → List ℕ → ℕ) → ((n : ℕ) (text : List ℕ) → near n text ≤ length text) → (text : List ℕ) → near_digits near text ≤ length text
digits_short f each [] = omega arith
digits_short f each (b ∷ text) = elim (is_true_or_false (is_digit_byte b)) [
  | inl h ↦ rw h (each 0 (b ∷ text))
  | inr h ↦ rw h (omega arith)
]

quote_short : (text : List ℕ) → near_quote text ≤ length text
quote_short [] = omega arith
quote_short (b ∷ text) = elim (is_true_or_false (is_text_byte b)) [
  | inl h ↦ rw h (omega (arith, quote_short text))
  | inr h ↦ (elim (is_true_or_false (b == 39)) [ inl f ↦ rw (h, f) (omega arith) | inr f ↦ rw (h, f) (omega arith) ])
]

common_second : (k text : List ℕ) → common k text ≤ length text
common_second [] text = omega arith
common_second (b ∷ k) [] = omega arith
common_second (b ∷ k) (c ∷ text) = at_heads b c k text _ (λ same. omega (arith, common_second k text))

short_here : (w : Word) (text : List ℕ) → near_here w text ≤ length text
short_here (Keyword k) text = let l : length (map upper text) ≡ length text = length-map text upper in omega (arith, common_second k (map upper text))
short_here (Mark m) [] = omega arith
short_here (Mark m) (b ∷ text) = elim (is_true_or_false (b == m)) [ inl h ↦ rw h (omega arith) | inr h ↦ rw h (omega arith) ]
short_here Name text = elim (is_true_or_false (starts_with_letter text)) [
  | inl h ↦ rw h (omega (arith, run_and_rest is_word text))
  | inr h ↦ rw h (omega arith)
]
short_here Number text = digits_short near_number (λ n t. number_short n t) text
short_here Size text = digits_short near_size (λ n t. size_short n t) text
short_here Minutes text = digits_short near_minutes (λ n t. minutes_short n t) text
short_here (Argument k) text = omega (arith, near_short (first_stage k) (run_of is_filled text), run_and_rest is_filled text)
short_here End text = omega arith
short_here Quoted [] = omega arith
short_here Quoted (b ∷ text) = elim (is_true_or_false (b == 39)) [
  | inl h ↦ rw h (omega (arith, quote_short text))
  | inr h ↦ rw h (omega arith)
]

pub short : (w : Word) (text : List ℕ) → near w text ≤ length text
short w text = omega (arith, short_here w (after_run (gap w) text), run_and_rest (gap w) text)
