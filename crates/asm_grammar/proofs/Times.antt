-- What the reader of a time computes.
use Rattle.std.proofs.Common.{◌≡◌, ◌≢◌, ℕ, zero, suc, ◌+◌, ◌-◌, ◌*◌, ◌^◌, ◌<◌, min, Bool, true, false, nat_lt, ◌⊎◌, inl, inr, List, [], ◌∷◌, length, refl, sym, ap, subst, ◌∙◌, Some, None, arith}
use Rattle.std.specs.Prelude.{◌==◌, if◌then◌else◌}
use Rattle.std.proofs.lemmas.Bool.{eqb-true, eq-eqb}
use Rattle.asm_grammar.specs.Bytes.{is_blank, is_digit_byte, run_of, after_run}
use Rattle.asm_grammar.specs.Word.{Minutes, fit, near, digits_of, digits_after, in_minutes, near_digits, near_minutes, near_unit, near_letter, near_count, near_count_value}
use Rattle.asm_grammar.specs.Reading.{Took, Failed, one}
use Rattle.asm_grammar.proofs.Tests.{is_true_or_false}
use Rattle.asm_grammar.proofs.Consumes.{run_and_rest}
use Rattle.asm_grammar.proofs.Near.{minutes_bound}
use Rattle.asm_grammar.proofs.Readers.{other_eqb, same_suc}

-- too many minutes make no time, whatever follows
overflow : (m : ℕ) (bytes text : List ℕ) → nat_lt (m * 60) (2 ^ 64) ≡ false → in_minutes (digits_after m bytes) text ≡ None
overflow m bytes text l = elim (in_minutes (digits_after m bytes) text) as (λ o. in_minutes (digits_after m bytes) text ≡ o → o ≡ None) [
  | None ↦ λ e. refl
  | Some (v, r) ↦ λ e. absurd (let k = minutes_bound m bytes text v r e in cc)
] refl

minutes_from : (n : ℕ) (text z : List ℕ) → in_minutes (digits_after n (run_of is_digit_byte text)) z
    ≡ (if near_count n text == length (run_of is_digit_byte text) then in_minutes (Some (near_count_value n text)) z else None)
minutes_from n [] z = refl
minutes_from n (b ∷ text) z = elim (is_true_or_false (is_digit_byte b)) [
  | inr d ↦ rw d refl
  | inl d ↦
      let m : ℕ = n * 10 + (b - 48) in
      elim (is_true_or_false (nat_lt (m * 60) (2 ^ 64))) [
        | inl k ↦ rw (d, d, k, same_suc (near_count m text) (length (run_of is_digit_byte text))) (minutes_from m text z)
        | inr k ↦ rw (d, d, k, other_eqb 0 (suc (length (run_of is_digit_byte text))) (omega arith)) (overflow m (run_of is_digit_byte text) z k)
      ]
]

unit_is_near : (n : ℕ) (text : List ℕ) → near_unit n text ≡ length (run_of is_blank text) + near_letter n (after_run is_blank text)
unit_is_near n [] = omega arith
unit_is_near n (b ∷ text) = elim (is_true_or_false (is_blank b)) [
  | inl h ↦ rw h (let k = unit_is_near n text in omega arith)
  | inr h ↦ rw h (omega arith)
]

add_within : (b : Bool) (x y : ℕ) → (if b then x + y else x) + 1 ≡ (if b then x + 1 + y else x + 1)
add_within true x y = omega arith
add_within false x y = refl

near_from_count : (n : ℕ) (text : List ℕ) → near_minutes n text
    ≡ (if near_count n text == length (run_of is_digit_byte text) then near_count n text + near_unit (near_count_value n text) (after_run is_digit_byte text) else near_count n text)
near_from_count n [] = refl
near_from_count n (b ∷ text) = elim (is_true_or_false (is_digit_byte b)) [
  | inr d ↦ rw d (omega arith)
  | inl d ↦
      let m : ℕ = n * 10 + (b - 48) in
      elim (is_true_or_false (nat_lt (m * 60) (2 ^ 64))) [
        | inr k ↦ rw (d, k, other_eqb 0 (suc (length (run_of is_digit_byte text))) (omega arith)) refl
        | inl k ↦ rw (d, k, same_suc (near_count m text) (length (run_of is_digit_byte text)))
            (ap (λ x. x + 1) (near_from_count m text) ∙ add_within (near_count m text == length (run_of is_digit_byte text)) (near_count m text) (near_unit (near_count_value m text) (after_run is_digit_byte text)))
      ]
]

-- a time needs a digit
some_digits : (text : List ℕ) → 0 < length (run_of is_digit_byte text) → (digits_of (run_of is_digit_byte text) ≡ digits_after 0 (run_of is_digit_byte text)) × (near_digits near_minutes text ≡ near_minutes 0 text)
some_digits [] l = absurd (omega arith)
some_digits (b ∷ text) l = elim (is_true_or_false (is_digit_byte b)) [
  | inl d ↦ (rw d refl, rw d refl)
  | inr d ↦ absurd (let k = rw d at l in omega arith)
]

no_digits_there : (text : List ℕ) → length (run_of is_digit_byte text) ≡ 0 → (digits_of (run_of is_digit_byte text) ≡ None) × (near_digits near_minutes text ≡ 0) × (near_count 0 text ≡ 0)
no_digits_there [] e = (refl, refl, refl)
no_digits_there (b ∷ text) e = elim (is_true_or_false (is_digit_byte b)) [
  | inl d ↦ absurd (let k = rw d at e in omega arith)
  | inr d ↦ (rw d refl, rw d refl, rw d refl)
]

failed : (t text : List ℕ) (n l left : ℕ) → text ≡ after_run is_blank t → n ≡ near_digits near_minutes text → left ≡ min l (length text - n) → fit Minutes t ≡ None → one Minutes t l (fit Minutes t) ≡ Failed left
failed t text n l left a e is none =
    let n' : n ≡ near_digits near_minutes (after_run is_blank t) = e ∙ ap (near_digits near_minutes) a in
    let len : length text ≡ length (after_run is_blank t) = ap length a in
    let r = run_and_rest is_blank t in
    let m : min l (length t - near Minutes t) ≡ left = omega arith in
    ap (one Minutes t l) none ∙ ap (λ x. Failed x) m

-- The words of a time as the reader cuts them.
pub record Cut (t text digits after blanks behind : List ℕ) : Type 0 where
  pub text_is : text ≡ after_run is_blank t
  pub digits_is : digits ≡ run_of is_digit_byte text
  pub after_is : after ≡ after_run is_digit_byte text
  pub blanks_is : blanks ≡ run_of is_blank after
  pub behind_is : behind ≡ after_run is_blank after

fit_by : (t text : List ℕ) → text ≡ after_run is_blank t → fit Minutes t ≡ in_minutes (digits_of (run_of is_digit_byte text)) (after_run is_blank (after_run is_digit_byte text))
fit_by t text a = ap (λ x. in_minutes (digits_of (run_of is_digit_byte x)) (after_run is_blank (after_run is_digit_byte x))) (sym a)

not_zero : (n : ℕ) → (n == 0) ≡ false → 0 < n
not_zero zero e = cc
not_zero (suc n) e = omega arith

refused_none : (t text digits : List ℕ) (len l left : ℕ) → text ≡ after_run is_blank t → digits ≡ run_of is_digit_byte text → len ≡ near_count 0 text
    → length digits ≡ 0 → left ≡ min l (length text - len) → one Minutes t l (fit Minutes t) ≡ Failed left
refused_none t text digits len l left a b c e is =
    let z = no_digits_there text (sym (ap length b) ∙ e) in
    failed t text len l left a (c ∙ z.2 ∙ sym z.1) is
    (fit_by t text a ∙ ap (λ o. in_minutes o (after_run is_blank (after_run is_digit_byte text))) z.0)

refused_many : (t text digits : List ℕ) (len l left : ℕ) → text ≡ after_run is_blank t → digits ≡ run_of is_digit_byte text → len ≡ near_count 0 text
    → 0 < length digits → len ≢ length digits → left ≡ min l (length text - len) → one Minutes t l (fit Minutes t) ≡ Failed left
refused_many t text digits len l left a b c some n is =
    let s = some_digits text (subst (λ x. 0 < length x) b some) in
    let k : (near_count 0 text == length (run_of is_digit_byte text)) ≡ false = other_eqb (near_count 0 text) (length (run_of is_digit_byte text)) (λ h. n (c ∙ h ∙ sym (ap length b))) in
    failed t text len l left a
    (c ∙ sym (s.1 ∙ near_from_count 0 text ∙ ap (λ x. if x then near_count 0 text + near_unit (near_count_value 0 text) (after_run is_digit_byte text) else near_count 0 text) k)) is
    (fit_by t text a ∙ ap (λ o. in_minutes o (after_run is_blank (after_run is_digit_byte text))) s.0
    ∙ minutes_from 0 text (after_run is_blank (after_run is_digit_byte text))
    ∙ ap (λ x. if x then in_minutes (Some (near_count_value 0 text)) (after_run is_blank (after_run is_digit_byte text)) else None) k)

-- no digit stands there, or too many do
pub refused_count : (t text digits : List ℕ) (len l left : ℕ) → text ≡ after_run is_blank t → digits ≡ run_of is_digit_byte text → len ≡ near_count 0 text
    → (len ≡ 0) ⊎ (len ≢ length digits) → left ≡ min l (length text - len) → one Minutes t l (fit Minutes t) ≡ Failed left
refused_count t text digits len l left a b c d is = elim (is_true_or_false (length digits == 0)) [
  | inl e ↦ refused_none t text digits len l left a b c (eqb-true (length digits) 0 e) is
  | inr e ↦
      (let some = not_zero (length digits) e in
      refused_many t text digits len l left a b c some (elim d [ inl z ↦ (λ h. absurd (omega arith)) | inr n ↦ n ]) is)
]

-- what the letter behind them makes of the digits
counted : (t text digits after blanks behind : List ℕ) (len count : ℕ) → Cut t text digits after blanks behind → len ≡ near_count 0 text → count ≡ near_count_value 0 text
    → 0 < length digits → len ≡ length digits → fit Minutes t ≡ in_minutes (Some count) behind
counted t text digits after blanks behind len count u c v some all =
    let l : 0 < length (run_of is_digit_byte text) = subst (λ x. 0 < length x) u.digits_is some in
    let s = some_digits text l in
    let k : (near_count 0 text == length (run_of is_digit_byte text)) ≡ true = eq-eqb (near_count 0 text) (length (run_of is_digit_byte text)) (sym c ∙ all ∙ ap length u.digits_is) in
    let z : after_run is_blank (after_run is_digit_byte text) ≡ behind = sym (u.behind_is ∙ ap (after_run is_blank) u.after_is) in
    fit_by t text u.text_is ∙ ap (λ o. in_minutes o (after_run is_blank (after_run is_digit_byte text))) s.0
    ∙ minutes_from 0 text (after_run is_blank (after_run is_digit_byte text))
    ∙ ap (λ x. if x then in_minutes (Some (near_count_value 0 text)) (after_run is_blank (after_run is_digit_byte text)) else None) k
    ∙ ap (λ x. in_minutes (Some x) (after_run is_blank (after_run is_digit_byte text))) (sym v)
    ∙ ap (in_minutes (Some count)) z

pub given_time : (t text digits after blanks behind rest : List ℕ) (len count minutes left : ℕ) → Cut t text digits after blanks behind → len ≡ near_count 0 text → count ≡ near_count_value 0 text
    → 0 < length digits → len ≡ length digits → in_minutes (Some count) behind ≡ Some (minutes, rest) → one Minutes t left (fit Minutes t) ≡ Took minutes rest left
given_time t text digits after blanks behind rest len count minutes left u c v some all e =
    ap (one Minutes t left) (counted t text digits after blanks behind len count u c v some all ∙ e)

pub refused_unit : (t text digits after blanks behind : List ℕ) (len count n l left : ℕ) → Cut t text digits after blanks behind → len ≡ near_count 0 text → count ≡ near_count_value 0 text
    → 0 < length digits → len ≡ length digits → n ≡ near_letter count behind → in_minutes (Some count) behind ≡ None
    → left ≡ min l (length text - (len + length blanks + n)) → one Minutes t l (fit Minutes t) ≡ Failed left
refused_unit t text digits after blanks behind len count n l left u c v some all e none is =
    let k : (near_count 0 text == length (run_of is_digit_byte text)) ≡ true = eq-eqb (near_count 0 text) (length (run_of is_digit_byte text)) (sym c ∙ all ∙ ap length u.digits_is) in
    let s = some_digits text (subst (λ x. 0 < length x) u.digits_is some) in
    let x : near_digits near_minutes text ≡ near_count 0 text + near_unit (near_count_value 0 text) (after_run is_digit_byte text) =
    s.1 ∙ near_from_count 0 text ∙ ap (λ y. if y then near_count 0 text + near_unit (near_count_value 0 text) (after_run is_digit_byte text) else near_count 0 text) k in
    let y : near_unit (near_count_value 0 text) (after_run is_digit_byte text) ≡ length blanks + n =
    ap (λ m. near_unit m (after_run is_digit_byte text)) (sym v) ∙ ap (near_unit count) (sym u.after_is) ∙ unit_is_near count after
    ∙ ap (λ xs. length xs + near_letter count (after_run is_blank after)) (sym u.blanks_is) ∙ ap (λ xs. length blanks + near_letter count xs) (sym u.behind_is) ∙ ap (λ m. length blanks + m) (sym e) in
    failed t text (len + length blanks + n) l left u.text_is (omega arith) is
    (counted t text digits after blanks behind len count u c v some all ∙ none)
