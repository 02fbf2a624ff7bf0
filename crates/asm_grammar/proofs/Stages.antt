-- How the words of verbs are taken, stage by stage.
use Rattle.std.proofs.Common.{◌≡◌, ◌≢◌, ℕ, suc, ◌+◌, ◌-◌, ◌*◌, ◌^◌, ◌≤◌, Bool, true, false, ◌&&◌, not, nat_lt, inl, inr, List, [], ◌∷◌, ◌++◌, length, refl, sym, ap, subst, ◌∙◌, Option, Some, None, arith}
use Rattle.std.specs.Prelude.{is_some, ◌==◌, if◌then◌else◌}
use Rattle.std.specs.List.{list_all}
use Rattle.std.proofs.lemmas.Bool.{eqb-true, eq-eqb}
use Rattle.asm_grammar.specs.Bytes.{is_filled, is_word, is_letter_byte, is_digit_byte, run_of, common}
use Rattle.asm_grammar.specs.Argument.{Kind, Exact, Text, PlainName, PlainNumber, Sized, GroupPath, PathPattern, NotLong, PartPattern, HostPath, HexBytes, HexByte, ArgumentMeaning, Parts, Starred, Stage, Rest, NameStart, Letters, NumberStart, Digits, SizeStart, SizeDigits, Lettered, PathStart, Plus, GroupName, Slash, Dot, Part, NotLongStart, Dash, DashL, OutsideStart, OutsideDot, OutsidePath, HexStart, Half, Whole, first_stage, step, ends_at, part_begins, part_goes_on, is_path_byte, has_slashes, is_visible, is_hex, factor, onward, reached, near_from, accepts, is_of, says, said_at, argument_of}
use Rattle.asm_grammar.specs.Word.{Argument}
use Rattle.asm_grammar.specs.Reading.{is_solid}
use Rattle.asm_grammar.proofs.Tests.{both, is_true_or_false}

-- WHAT IS SAID

said_one : {A : Type 0} (say : Stage → A) (s : Stage) (b : Bool) → ends_at s ≡ b → is_some (said_at say s) ≡ ends_at s
said_one say s true e = rw e refl
said_one say s false e = rw e refl

said_is : {A : Type 0} (say : Stage → A) (o : Option Stage) → is_some (onward None (λ s. said_at say s) o) ≡ onward false ends_at o
said_is say None = refl
said_is say (Some s) = said_one say s (ends_at s) refl

pub of_is : (k : Kind) (bytes : List ℕ) → is_some (argument_of k bytes) ≡ is_of k bytes
of_is k bytes = said_is (λ t. says k bytes t) (reached (first_stage k) bytes)

pub of_some : (k : Kind) (bytes : List ℕ) (v : ArgumentMeaning k) → argument_of k bytes ≡ Some v → is_of k bytes ≡ true
of_some k bytes v e = sym (of_is k bytes) ∙ ap (λ o. is_some o) e

pub of_none : (k : Kind) (bytes : List ℕ) → argument_of k bytes ≡ None → is_of k bytes ≡ false
of_none k bytes e = sym (of_is k bytes) ∙ ap (λ o. is_some o) e

some_there : {A : Type 0} (o : Option A) → is_some o ≡ true → (v : A) × (o ≡ Some v)
some_there None e = cc
some_there (Some v) e = (v, refl)

pub of_says : (k : Kind) (bytes : List ℕ) → is_of k bytes ≡ true → (v : ArgumentMeaning k) × (argument_of k bytes ≡ Some v)
of_says k bytes e = some_there (argument_of k bytes) (of_is k bytes ∙ e)

not_empty : (k : Kind) → is_solid (Argument k) ≡ true → is_of k [] ≡ true → ⊥
not_empty (Exact []) s e = cc
not_empty (Exact (b ∷ k)) s e = cc
not_empty (Text PlainName) s e = cc
not_empty (Text GroupPath) s e = cc
not_empty (Text PathPattern) s e = cc
not_empty (Text NotLong) s e = cc
not_empty (Text PartPattern) s e = cc
not_empty (Text HostPath) s e = cc
not_empty PlainNumber s e = cc
not_empty Sized s e = cc
not_empty HexBytes s e = cc
not_empty HexByte s e = cc

pub of_run : (k : Kind) (bytes : List ℕ) → is_solid (Argument k) ≡ true → is_of k bytes ≡ true → bytes ≢ []
of_run k bytes s e h = not_empty k s (subst (λ x. is_of k x ≡ true) h e)

-- NEAR

-- one byte that both texts have
one_near : (text t : List ℕ) (o : Option Stage)
    → ((z : Stage) → accepts z (run_of is_filled text) ≡ false → accepts z (run_of is_filled t) ≡ true → common text t ≤ near_from z (run_of is_filled text))
    → onward false ends_at (onward None (λ z. reached z (run_of is_filled text)) o) ≡ false
    → onward false ends_at (onward None (λ z. reached z (run_of is_filled t)) o) ≡ true
    → common text t + 1 ≤ onward 0 (λ z. near_from z (run_of is_filled text) + 1) o
one_near text t None each e f = cc
one_near text t (Some z) each e f = let k = each z e f in omega arith

pub stage_near : (s : Stage) (text t : List ℕ) → accepts s (run_of is_filled text) ≡ false → accepts s (run_of is_filled t) ≡ true → common text t ≤ near_from s (run_of is_filled text)
stage_near s [] t e f = omega arith
stage_near s (b ∷ text) [] e f = omega arith
stage_near s (b ∷ text) (c ∷ t) e f =
    elim (is_true_or_false (b == c)) [
      | inr n ↦ rw n (omega arith)
      | inl h ↦
          let same : c ≡ b = sym (eqb-true b c h) in
          let f' : accepts s (run_of is_filled (b ∷ t)) ≡ true = subst (λ x. accepts s (run_of is_filled (x ∷ t)) ≡ true) same f in
          elim (is_true_or_false (is_filled b)) [
            | inr n ↦ absurd (let x : accepts s [] ≡ false = rw n at e in let y : accepts s [] ≡ true = rw n at f' in cc)
            | inl y ↦ rw (h, y) (one_near text t (step s b) (λ z e2 f2. stage_near z text t e2 f2) (rw y at e) (rw y at f'))
          ]
    ]

one_short : (bytes : List ℕ) (o : Option Stage) → ((z : Stage) → near_from z bytes ≤ length bytes) → onward 0 (λ z. near_from z bytes + 1) o ≤ suc (length bytes)
one_short bytes None each = omega arith
one_short bytes (Some z) each = let k = each z in omega arith

pub near_short : (s : Stage) (bytes : List ℕ) → near_from s bytes ≤ length bytes
near_short s [] = omega arith
near_short s (b ∷ bytes) = one_short bytes (step s b) (λ z. near_short z bytes)

-- COMPLETED

-- what ends a word from a stage on
abbrev completion : Stage → List ℕ
completion (Rest bytes) = bytes
completion NameStart = 65 ∷ []
completion NumberStart = 48 ∷ []
completion SizeStart = 48 ∷ []
completion (PathStart parts) = 97 ∷ []
completion (Slash parts) = 97 ∷ []
completion (Dot parts) = 46 ∷ []
completion NotLongStart = 97 ∷ []
completion DashL = 97 ∷ []
completion OutsideStart = 47 ∷ []
completion OutsideDot = 47 ∷ []
completion (HexStart more) = 48 ∷ 48 ∷ []
completion (Half more) = 48 ∷ []
completion other = []

rest_accepted : (bytes : List ℕ) → accepts (Rest bytes) bytes ≡ true
rest_accepted [] = refl
rest_accepted (c ∷ bytes) = rw (eq-eqb c c refl) (rest_accepted bytes)

completion_accepted : (s : Stage) → accepts s (completion s) ≡ true
completion_accepted (Rest bytes) = rest_accepted bytes
completion_accepted NameStart = refl
completion_accepted (Letters n) = refl
completion_accepted NumberStart = refl
completion_accepted (Digits n) = refl
completion_accepted SizeStart = refl
completion_accepted (SizeDigits n) = refl
completion_accepted (Lettered n) = refl
completion_accepted (PathStart parts) = refl
completion_accepted (Plus parts) = refl
completion_accepted (GroupName parts n) = refl
completion_accepted (Slash parts) = refl
completion_accepted (Dot parts) = refl
completion_accepted (Part parts n) = refl
completion_accepted NotLongStart = refl
completion_accepted Dash = refl
completion_accepted DashL = refl
completion_accepted OutsideStart = refl
completion_accepted OutsideDot = refl
completion_accepted OutsidePath = refl
completion_accepted (HexStart more) = refl
completion_accepted (Half more) = refl
completion_accepted (Whole more) = refl

-- a word that goes with the bytes as far as one can
abbrev pub filled : Stage → List ℕ → List ℕ
filled s [] = completion s
filled s (b ∷ bytes) = onward (completion s) (λ t. b ∷ filled t bytes) (step s b)

pub filled_accepted : (s : Stage) (bytes : List ℕ) → accepts s (filled s bytes) ≡ true
filled_accepted s [] = completion_accepted s
filled_accepted s (b ∷ bytes) = elim (step s b) as (λ o. step s b ≡ o → accepts s (onward (completion s) (λ t. b ∷ filled t bytes) o) ≡ true) [
  | None ↦ λ e. completion_accepted s
  | Some z ↦ λ e. rw e (filled_accepted z bytes)
] refl

pub filled_far : (s : Stage) (bytes tail : List ℕ) → near_from s bytes ≤ common bytes (filled s bytes ++ tail)
filled_far s [] tail = omega arith
filled_far s (b ∷ bytes) tail = elim (step s b) as (λ o. onward 0 (λ t. near_from t bytes + 1) o ≤ common (b ∷ bytes) (onward (completion s) (λ t. b ∷ filled t bytes) o ++ tail)) [
  | None ↦ omega arith
  | Some z ↦ rw (eq-eqb b b refl) (let k = filled_far z bytes tail in omega arith)
]

-- the bytes that have to come have no space
abbrev pub is_unspaced : Stage → Bool
is_unspaced (Rest bytes) = list_all is_filled bytes
is_unspaced other = true

completion_unspaced : (s : Stage) → is_unspaced s ≡ true → list_all is_filled (completion s) ≡ true
completion_unspaced (Rest bytes) e = e
completion_unspaced NameStart e = refl
completion_unspaced (Letters n) e = refl
completion_unspaced NumberStart e = refl
completion_unspaced (Digits n) e = refl
completion_unspaced SizeStart e = refl
completion_unspaced (SizeDigits n) e = refl
completion_unspaced (Lettered n) e = refl
completion_unspaced (PathStart parts) e = refl
completion_unspaced (Plus parts) e = refl
completion_unspaced (GroupName parts n) e = refl
completion_unspaced (Slash parts) e = refl
completion_unspaced (Dot parts) e = refl
completion_unspaced (Part parts n) e = refl
completion_unspaced NotLongStart e = refl
completion_unspaced Dash e = refl
completion_unspaced DashL e = refl
completion_unspaced OutsideStart e = refl
completion_unspaced OutsideDot e = refl
completion_unspaced OutsidePath e = refl
completion_unspaced (HexStart more) e = refl
completion_unspaced (Half more) e = refl
completion_unspaced (Whole more) e = refl

abbrev Unspaced : Option Stage → Type 0
Unspaced o = onward true is_unspaced o ≡ true

either : (test : Bool) (o p : Option Stage) → Unspaced o → Unspaced p → Unspaced (if test then o else p)
either true o p e f = e
either false o p e f = f

begins_unspaced : (parts : Parts) (b : ℕ) → Unspaced (part_begins parts b)
begins_unspaced parts b = either (b == 46) (Some (Dot parts)) _ refl (either (is_path_byte parts b) (Some (Part parts 1)) None refl refl)

goes_unspaced : (parts : Parts) (n b : ℕ) → Unspaced (part_goes_on parts n b)
goes_unspaced parts n b = either (has_slashes parts && (b == 47)) (Some (Slash parts)) _ refl (either (is_path_byte parts b && nat_lt n 80) (Some (Part parts (n + 1))) None refl refl)

step_unspaced : (s : Stage) (b : ℕ) → is_unspaced s ≡ true → Unspaced (step s b)
step_unspaced (Rest []) b e = refl
step_unspaced (Rest (c ∷ bytes)) b e = either (b == c) (Some (Rest bytes)) None (both (is_filled c) (list_all is_filled bytes) e).1 refl
step_unspaced NameStart b e = either (is_letter_byte b) (Some (Letters 1)) None refl refl
step_unspaced (Letters n) b e = either (is_word b && nat_lt n 30) (Some (Letters (n + 1))) None refl refl
step_unspaced NumberStart b e = either (is_digit_byte b) (Some (Digits (b - 48))) None refl refl
step_unspaced (Digits n) b e = either (is_digit_byte b && nat_lt (n * 10 + (b - 48)) (2 ^ 64)) (Some (Digits (n * 10 + (b - 48)))) None refl refl
step_unspaced SizeStart b e = either (is_digit_byte b) (Some (SizeDigits (b - 48))) None refl refl
step_unspaced (SizeDigits n) b e = either (is_digit_byte b && nat_lt (n * 10 + (b - 48)) (2 ^ 64)) (Some (SizeDigits (n * 10 + (b - 48)))) _ refl
    (either (not (factor b == 0) && nat_lt (n * factor b) (2 ^ 64)) (Some (Lettered (n * factor b))) None refl refl)
step_unspaced (Lettered n) b e = refl
step_unspaced (PathStart parts) b e = either (b == 43) (Some (Plus parts)) _ refl (begins_unspaced parts b)
step_unspaced (Plus parts) b e = either (is_letter_byte b) (Some (GroupName parts 1)) None refl refl
step_unspaced (GroupName parts n) b e = either (b == 47) (Some (Slash parts)) _ refl (either (is_word b && nat_lt n 30) (Some (GroupName parts (n + 1))) None refl refl)
step_unspaced (Slash parts) b e = begins_unspaced parts b
step_unspaced (Dot parts) b e = either (is_path_byte parts b) (Some (Part parts 2)) None refl refl
step_unspaced (Part parts n) b e = goes_unspaced parts n b
step_unspaced NotLongStart b e = either (b == 45) (Some Dash) _ refl (either (b == 43) (Some (Plus Starred)) _ refl (begins_unspaced Starred b))
step_unspaced Dash b e = either (b == 108) (Some DashL) _ refl (goes_unspaced Starred 1 b)
step_unspaced DashL b e = goes_unspaced Starred 2 b
step_unspaced OutsideStart b e = either (b == 47) (Some OutsidePath) _ refl (either (b == 46) (Some OutsideDot) None refl refl)
step_unspaced OutsideDot b e = either (b == 47) (Some OutsidePath) None refl refl
step_unspaced OutsidePath b e = either (is_visible b) (Some OutsidePath) None refl refl
step_unspaced (HexStart more) b e = either (is_hex b) (Some (Half more)) None refl refl
step_unspaced (Half more) b e = either (is_hex b) (Some (Whole more)) None refl refl
step_unspaced (Whole more) b e = either (more && is_hex b) (Some (Half more)) None refl refl

pub filled_unspaced : (s : Stage) (bytes : List ℕ) → is_unspaced s ≡ true → list_all is_filled bytes ≡ true → list_all is_filled (filled s bytes) ≡ true
filled_unspaced s [] e a = completion_unspaced s e
filled_unspaced s (b ∷ bytes) e a =
    let p = both (is_filled b) (list_all is_filled bytes) a in
    elim (step s b) as (λ o. Unspaced o → list_all is_filled (onward (completion s) (λ t. b ∷ filled t bytes) o) ≡ true) [
      | None ↦ λ u. completion_unspaced s e
      | Some z ↦ λ u. rw p.0 (filled_unspaced z bytes u p.1)
    ] (step_unspaced s b e)

-- APART

pub exact_is : (k bytes : List ℕ) → accepts (Rest k) bytes ≡ true → bytes ≡ k
exact_is [] [] e = refl
exact_is [] (b ∷ bytes) e = cc
exact_is (c ∷ k) [] e = cc
exact_is (c ∷ k) (b ∷ bytes) e = elim (is_true_or_false (b == c)) [
  | inr n ↦ absurd (let f = rw n at e in cc)
  | inl h ↦
      (let f : accepts (Rest k) bytes ≡ true = rw h at e in
      ap (λ x. x ∷ bytes) (eqb-true b c h) ∙ ap (λ x. c ∷ x) (exact_is k bytes f))
]

-- a path in a group begins with neither / nor ./
after_dot : (bytes : List ℕ) → is_of (Text GroupPath) (46 ∷ bytes) ≡ true → is_of (Text HostPath) (46 ∷ bytes) ≡ true → ⊥
after_dot [] e f = cc
after_dot (b ∷ bytes) e f = elim (is_true_or_false (b == 47)) [
  | inl h ↦ (let g = subst (λ x. is_of (Text GroupPath) (46 ∷ x ∷ bytes) ≡ true) (eqb-true b 47 h) e in cc)
  | inr h ↦ (let g : false ≡ true = rw h at f in cc)
]

pub path_or_outside : (bytes : List ℕ) → is_of (Text GroupPath) bytes ≡ true → is_of (Text HostPath) bytes ≡ true → ⊥
path_or_outside [] e f = cc
path_or_outside (b ∷ bytes) e f = elim (is_true_or_false (b == 47)) [
  | inl h ↦ (let g = subst (λ x. is_of (Text GroupPath) (x ∷ bytes) ≡ true) (eqb-true b 47 h) e in cc)
  | inr h ↦ (elim (is_true_or_false (b == 46)) [
    | inr d ↦ (let g : false ≡ true = rw (h, d) at f in cc)
    | inl d ↦ after_dot bytes (subst (λ x. is_of (Text GroupPath) (x ∷ bytes) ≡ true) (eqb-true b 46 d) e) (subst (λ x. is_of (Text HostPath) (x ∷ bytes) ≡ true) (eqb-true b 46 d) f)
  ])
]
