-- What the readers of the words of verbs compute.
use Rattle.std.proofs.Common.{◌≡◌, ℕ, suc, ◌-◌, ◌≤◌, min, Bool, true, false, ◌&&◌, inl, inr, List, [], ◌∷◌, length, refl, sym, ap, subst, ◌∙◌, Option, Some, None, arith}
use Rattle.std.specs.Prelude.{◌==◌, if◌then◌else◌}
use Rattle.std.specs.List.{list_all}
use Rattle.std.proofs.lemmas.Bool.{eqb-true, eq-eqb}
use Rattle.asm_grammar.specs.Argument.{TextKind, Kind, Exact, Text, HexBytes, hex_bytes, is_hex, ArgumentMeaning, Stage, Rest, Whole, first_stage, ends_at, onward, reached, near_from, accepts, is_of, said_at, argument_of}
use Rattle.asm_grammar.specs.Bytes.{is_space, is_filled, run_of, after_run}
use Rattle.asm_grammar.specs.Word.{Argument, End, end_of_text, fit, near, with_rest}
use Rattle.asm_grammar.specs.Reading.{Took, Failed, one, close, ends, is_all}
use Rattle.asm_grammar.proofs.Consumes.{run_and_rest}
use Rattle.asm_grammar.proofs.Tests.{is_true_or_false}
use Rattle.asm_grammar.proofs.Readers.{same_suc, other_eqb}

said_text : (v : List ℕ) (o : Option Stage) (b : Bool) → onward false ends_at o ≡ b → onward None (λ s. said_at (λ t. v) s) o ≡ (if b then Some v else None)
said_text v None true e = cc
said_text v None false e = refl
said_text v (Some s) b e = ap (λ x. if x then Some v else None) e

pub text_yes : (t : TextKind) (bytes : List ℕ) → is_of (Text t) bytes ≡ true → argument_of (Text t) bytes ≡ Some bytes
text_yes t bytes e = said_text bytes (reached (first_stage (Text t)) bytes) true e

pub text_no : (t : TextKind) (bytes : List ℕ) → is_of (Text t) bytes ≡ false → argument_of (Text t) bytes ≡ None
text_no t bytes e = said_text bytes (reached (first_stage (Text t)) bytes) false e

said_unit : (o : Option Stage) → onward false ends_at o ≡ true → ◌≡◌ {A = Option (Unit {0})} (onward None (λ s. said_at (λ t. tt) s) o) (Some tt)
said_unit None e = cc
said_unit (Some s) e = rw e refl

said_none : (o : Option Stage) → onward false ends_at o ≡ false → ◌≡◌ {A = Option (Unit {0})} (onward None (λ s. said_at (λ t. tt) s) o) None
said_none None e = refl
said_none (Some s) e = rw e refl

pub exact_yes : (k bytes : List ℕ) → is_of (Exact k) bytes ≡ true → argument_of (Exact k) bytes ≡ Some tt
exact_yes k bytes e = said_unit (reached (Rest k) bytes) e

pub exact_no : (k bytes : List ℕ) → is_of (Exact k) bytes ≡ false → argument_of (Exact k) bytes ≡ None
exact_no k bytes e = said_none (reached (Rest k) bytes) e

pub exact_end : (bytes : List ℕ) → near_from (Rest []) bytes ≡ 0
exact_end [] = refl
exact_end (b ∷ bytes) = refl

suc_suc : (x y : ℕ) → (suc x == suc y) ≡ (x == y)
suc_suc x y = elim (is_true_or_false (x == y)) [
  | inl h ↦ (let e : x ≡ y = eqb-true x y h in eq-eqb (suc x) (suc y) (omega arith) ∙ sym h)
  | inr h ↦ other_eqb (suc x) (suc y) (λ e. let k : (x == y) ≡ true = eq-eqb x y (omega arith) in cc) ∙ sym h
]

pub exact_fits : (k bytes : List ℕ) → accepts (Rest k) bytes ≡ ((near_from (Rest k) bytes == length k) && (length bytes == length k))
exact_fits [] [] = refl
exact_fits [] (b ∷ bytes) = rw (other_eqb (suc (length bytes)) 0 (omega arith)) refl
exact_fits (c ∷ k) [] = rw (other_eqb 0 (suc (length k)) (omega arith)) refl
exact_fits (c ∷ k) (b ∷ bytes) = elim (is_true_or_false (b == c)) [
  | inl h ↦ rw (h, same_suc (near_from (Rest k) bytes) (length k), suc_suc (length bytes) (length k)) (exact_fits k bytes)
  | inr h ↦ rw (h, other_eqb 0 (suc (length k)) (omega arith)) refl
]

-- A word that stands next.
pub found : (k : Kind) (t text word rest : List ℕ) (v : ArgumentMeaning k) → text ≡ after_run is_space t → word ≡ run_of is_filled text → rest ≡ after_run is_filled text
    → argument_of k word ≡ Some v → fit (Argument k) t ≡ Some (v, rest)
found k t text word rest v a b c e =
    let b' : word ≡ run_of is_filled (after_run is_space t) = b ∙ ap (run_of is_filled) a in
    let c' : rest ≡ after_run is_filled (after_run is_space t) = c ∙ ap (after_run is_filled) a in
    let e' : argument_of k (run_of is_filled (after_run is_space t)) ≡ Some v = subst (λ x. argument_of k x ≡ Some v) b' e in
    ap (λ o. with_rest (after_run is_filled (after_run is_space t)) o) e' ∙ ap (λ r. Some (v, r)) (sym c')

pub unfound : (k : Kind) (t text word : List ℕ) → text ≡ after_run is_space t → word ≡ run_of is_filled text
    → argument_of k word ≡ None → fit (Argument k) t ≡ None
unfound k t text word a b e =
    let b' : word ≡ run_of is_filled (after_run is_space t) = b ∙ ap (run_of is_filled) a in
    ap (λ o. with_rest (after_run is_filled (after_run is_space t)) o) (subst (λ x. argument_of k x ≡ None) b' e)

pub near_is : (k : Kind) (t text word : List ℕ) (n l left : ℕ) → text ≡ after_run is_space t → word ≡ run_of is_filled text → n ≡ near_from (first_stage k) word
    → left ≡ min l (length text - n) → left ≡ min l (length t - near (Argument k) t)
near_is k t text word n l left a b e is =
    let b' : word ≡ run_of is_filled (after_run is_space t) = b ∙ ap (run_of is_filled) a in
    let n' : n ≡ near_from (first_stage k) (run_of is_filled (after_run is_space t)) = e ∙ ap (near_from (first_stage k)) b' in
    let len : length text ≡ length (after_run is_space t) = ap length a in
    let r = run_and_rest is_space t in
    omega arith

-- A word of another kind, where one was needed.
pub given : (k : Kind) (t text word rest : List ℕ) (v : ArgumentMeaning k) (left : ℕ) → text ≡ after_run is_space t → word ≡ run_of is_filled text → rest ≡ after_run is_filled text
    → argument_of k word ≡ Some v → one (Argument k) t left (fit (Argument k) t) ≡ Took v rest left
given k t text word rest v left a b c e = ap (one (Argument k) t left) (found k t text word rest v a b c e)

pub refused : (k : Kind) (t text word : List ℕ) (n l left : ℕ) → text ≡ after_run is_space t → word ≡ run_of is_filled text → n ≡ near_from (first_stage k) word
    → left ≡ min l (length text - n) → argument_of k word ≡ None → one (Argument k) t l (fit (Argument k) t) ≡ Failed left
refused k t text word n l left a b e is none =
    ap (one (Argument k) t l) (unfound k t text word a b none) ∙ ap (λ x. Failed x) (sym (near_is k t text word n l left a b e is))

pub hex_yes : (bytes : List ℕ) → is_of HexBytes bytes ≡ true → argument_of HexBytes bytes ≡ Some (hex_bytes bytes)
hex_yes bytes e = said_text (hex_bytes bytes) (reached (first_stage HexBytes) bytes) true e

-- digits behind whole bytes
more_digits : (bytes : List ℕ) → accepts (Whole true) bytes ≡ true → list_all is_hex bytes ≡ true
more_digits [] e = refl
more_digits (b ∷ []) e = elim (is_true_or_false (is_hex b)) [ inl x ↦ absurd (let f = rw x at e in cc) | inr x ↦ absurd (let f = rw x at e in cc) ]
more_digits (b ∷ c ∷ bytes) e = elim (is_true_or_false (is_hex b)) [
  | inr x ↦ absurd (let f = rw x at e in cc)
  | inl x ↦ elim (is_true_or_false (is_hex c)) [ inr y ↦ absurd (let f = rw (x, y) at e in cc) | inl y ↦ rw (x, y) (more_digits bytes (rw (x, y) at e)) ]
]

-- All of them are digits.
pub hex_digits : (bytes : List ℕ) → is_of HexBytes bytes ≡ true → list_all is_hex bytes ≡ true
hex_digits [] e = cc
hex_digits (b ∷ []) e = elim (is_true_or_false (is_hex b)) [ inl x ↦ absurd (let f = rw x at e in cc) | inr x ↦ absurd (let f = rw x at e in cc) ]
hex_digits (b ∷ c ∷ bytes) e = elim (is_true_or_false (is_hex b)) [
  | inr x ↦ absurd (let f = rw x at e in cc)
  | inl x ↦ elim (is_true_or_false (is_hex c)) [ inr y ↦ absurd (let f = rw (x, y) at e in cc) | inl y ↦ rw (x, y) (more_digits bytes (rw (x, y) at e)) ]
]

pub hex_no : (bytes : List ℕ) → is_of HexBytes bytes ≡ false → argument_of HexBytes bytes ≡ None
hex_no bytes e = said_text (hex_bytes bytes) (reached (first_stage HexBytes) bytes) false e

no_end : (text : List ℕ) → 1 ≤ length text → is_all (end_of_text text) ≡ false
no_end [] l = absurd (omega arith)
no_end (b ∷ text) l = refl

-- No line ends before a byte that is no space.
pub line_open : (t text : List ℕ) (l left : ℕ) → text ≡ after_run is_space t → 1 ≤ length text → left ≡ min l (length text - 0) → close End t l ≡ Failed left
line_open t text l left a some is =
    let none : ends End t ≡ false = subst (λ x. is_all (end_of_text x) ≡ false) a (no_end text some) in
    let len : length text ≡ length (after_run is_space t) = ap length a in
    let r = run_and_rest is_space t in
    let n : min l (length t - near End t) ≡ left = omega arith in
    rw none (ap (λ x. Failed x) n)
