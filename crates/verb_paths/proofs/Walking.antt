-- A path leads on part by part.
use Rattle.std.proofs.Common.{◌≡◌, suc, Bool, true, false, List, [], ◌∷◌, ◌++◌, take, length, ◌≤◌, ◌<◌, arith, ◌⊎◌, Option, Some, None, inl, inr, ◌-◌, refl, sym, ap, ◌∙◌, append_assoc}
use Rattle.std.specs.Prelude.{◌==◌, ◌&&◌}
use Rattle.std.specs.List.{list_all}
use Rattle.std.specs.Str.{bytes_eq}
use Rattle.std.proofs.lemmas.Bool.{cases_Bool}
use Rattle.std.proofs.lemmas.List.Folds.{list_all-append}
use Rattle.asm_base.specs.Names.{name_of}
use Rattle.asm_group.specs.Names.{Bytes, is_part, all_parts}
use Rattle.asm_world.specs.Paths.{up, two_points, walk, between_slashes, before_first}
use Rattle.verb_paths.specs.Slashes.{first_part, behind_slash, parts_left, left_length}

-- the first part, and the others
pub parts_are : (bytes : Bytes) → between_slashes bytes ≡ first_part bytes ∷ parts_left (behind_slash bytes)
parts_are [] = refl
parts_are (b ∷ bytes) = elim (cases_Bool (b == 47)) [
  | inl slash ↦ rw slash refl
  | inr other ↦ rw other (ap (λ (parts : List Bytes). before_first (b ∷ []) parts) (parts_are bytes))
]

abbrev walk_on : (Bytes → Bool) → Option (List Bytes) → List Bytes → Option (List Bytes)
walk_on test None parts = None
walk_on test (Some at) parts = walk test at parts

walk_first : (test : Bytes → Bool) (at : List Bytes) (part : Bytes) (parts : List Bytes) → walk test at (part ∷ parts) ≡ walk_on test (walk test at (part ∷ [])) parts
walk_first test at part parts = elim (cases_Bool (bytes_eq part two_points)) [
  | inl goes_up ↦ rw goes_up refl
  | inr other ↦ rw other (elim (cases_Bool (test part)) [ inl one ↦ rw one refl | inr none ↦ rw none refl ])
]

split : (test : Bytes → Bool) (at : List Bytes) (left : Option Bytes) (bytes : Bytes) → left ≡ Some bytes → walk_on test (walk test at (first_part bytes ∷ [])) (parts_left (behind_slash bytes)) ≡ walk test at (parts_left left)
split test at left bytes is = sym (ap (λ (o : Option Bytes). walk test at (parts_left o)) is ∙ (ap (λ (parts : List Bytes). walk test at parts) (parts_are bytes) ∙ walk_first test at (first_part bytes) (parts_left (behind_slash bytes))))

-- one part further
pub further : (test : Bytes → Bool) (start at next : List Bytes) (left behind : Option Bytes) (path bytes part : Bytes) (led : Option (List Bytes)) → walk test at (parts_left left) ≡ walk test start (between_slashes path) → left ≡ Some bytes → part ≡ first_part bytes → behind ≡ behind_slash bytes
    → led ≡ walk test at (part ∷ []) → led ≡ Some next → walk test next (parts_left behind) ≡ walk test start (between_slashes path)
further test start at next left behind path bytes part led e is first rest step led_to =
    ap (λ (o : Option Bytes). walk test next (parts_left o)) rest
    ∙ (sym (ap (λ (o : Option (List Bytes)). walk_on test o (parts_left (behind_slash bytes))) (sym (ap (λ (p : Bytes). walk test at (p ∷ [])) first) ∙ (sym step ∙ led_to)))
    ∙ (split test at left bytes is ∙ e))

-- a part that isn't one
pub nowhere : (test : Bytes → Bool) (start at : List Bytes) (left : Option Bytes) (path bytes part : Bytes) (led : Option (List Bytes)) → walk test at (parts_left left) ≡ walk test start (between_slashes path) → left ≡ Some bytes → part ≡ first_part bytes
    → led ≡ walk test at (part ∷ []) → led ≡ None → None ≡ walk test start (between_slashes path)
nowhere test start at left path bytes part led e is first step led_to =
    sym (ap (λ (o : Option (List Bytes)). walk_on test o (parts_left (behind_slash bytes))) (sym (ap (λ (p : Bytes). walk test at (p ∷ [])) first) ∙ (sym step ∙ led_to)))
    ∙ (split test at left bytes is ∙ e)

-- what is left falls
pub left_falls : (left behind : Option Bytes) (bytes : Bytes) → left ≡ Some bytes → left_length behind ≤ length bytes → left_length behind < left_length left
left_falls left behind bytes is shorter = rw is (omega arith)

pub up_is : (parts : List Bytes) → up parts ≡ take (length parts - 1) parts
up_is [] = refl
up_is (part ∷ []) = refl
up_is (part ∷ next ∷ parts) =
    let n : length (part ∷ next ∷ parts) - 1 ≡ suc (length (next ∷ parts) - 1) = omega arith in
    rw n (ap (λ (ps : List Bytes). part ∷ ps) (up_is (next ∷ parts)))

-- ---- parts that are read as they stand

either : (b : Bool) → (b ≡ true) ⊎ (b ≡ false)
either true = inl refl
either false = inr refl

and_false : (b : Bool) → (b && false) ≡ false
and_false true = refl
and_false false = refl

-- the parts that were read, the next, and those behind it
pub read_split : (parts : List Bytes) (left : Option Bytes) (path bytes : Bytes) → parts ++ parts_left left ≡ between_slashes path → left ≡ Some bytes → parts ++ first_part bytes ∷ parts_left (behind_slash bytes) ≡ between_slashes path
read_split parts left path bytes e is = sym (ap (λ (o : Option Bytes). parts ++ parts_left o) is ∙ ap (λ (ps : List Bytes). parts ++ ps) (parts_are bytes)) ∙ e

pub read_on : (parts new : List Bytes) (left behind : Option Bytes) (path bytes part read : Bytes) → parts ++ parts_left left ≡ between_slashes path → left ≡ Some bytes → part ≡ first_part bytes → behind ≡ behind_slash bytes → read ≡ part → new ≡ parts ++ read ∷ [] → new ++ parts_left behind ≡ between_slashes path
read_on parts new left behind path bytes part read e is first rest same put =
    rw (put, rest, same, first) (append_assoc parts (first_part bytes ∷ []) (parts_left (behind_slash bytes)) ∙ read_split parts left path bytes e is)

-- one that isn't a part
pub unread : (parts : List Bytes) (left : Option Bytes) (path bytes part : Bytes) (read : Option Bytes) → parts ++ parts_left left ≡ between_slashes path → left ≡ Some bytes → part ≡ first_part bytes → read ≡ name_of 80 part → read ≡ None → None ≡ all_parts (between_slashes path)
unread parts left path bytes part read e is first reads none = elim (either (is_part 80 part)) [
  | inl one ↦ absurd (let f = rw one at (sym none ∙ reads) in cc)
  | inr other ↦
      let tail = parts_left (behind_slash bytes) in
      let not_first : is_part 80 (first_part bytes) ≡ false = sym (ap (is_part 80) first) ∙ other in
      let all : list_all (is_part 80) (parts ++ first_part bytes ∷ tail) ≡ false = list_all-append (is_part 80) parts (first_part bytes ∷ tail) ∙ rw not_first (and_false (list_all (is_part 80) parts)) in
      rw (← read_split parts left path bytes e is, all) refl
]
